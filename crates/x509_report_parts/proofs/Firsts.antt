-- What bytes begin with is one element, whose tag is their first.
use Rattle.std.proofs.Common.{◌≡◌, ◌<◌, ℕ, List, ◌++◌, length, sym, ap, ◌∙◌, arith, length-append, refl}
use Rattle.x509_der.specs.Element.{element, digits}
use Rattle.x509_der.specs.Reading.{IsFirst, NoFirst}
use Rattle.x509_report_parts.specs.Cursors.{IsNext, IsNone, NotNext}
use Rattle.x509_report_parts.specs.declared.cursor.Cursor.{Cursor}
use Rattle.x509_report_parts.specs.declared.cursor.Element.{Element}

head_tag : (t u : ℕ) (c d p q : List ℕ) → element t c ++ p ≡ element u d ++ q → t ≡ u
unfolding element
head_tag t u c d p q e = cc

pub same_tag : (string : List ℕ) (t u : ℕ) (c d p q : List ℕ) → IsFirst string t c p → IsFirst string u d q → t ≡ u
same_tag string t u c d p q f g = head_tag t u c d p q (sym f.bytes ∙ g.bytes)

some_bytes : (t : ℕ) (c p : List ℕ) → length p < length (element t c ++ p)
unfolding element
some_bytes t c p = omega (arith, length-append (digits (length c) ++ c) p)

pub first_shorter : (string : List ℕ) (t : ℕ) (c p : List ℕ) → IsFirst string t c p → length p < length string
first_shorter string t c p f = omega (arith, some_bytes t c p, ap length f.bytes)

-- no element stands there
pub none_next : (tag : ℕ) (old ahead : Cursor) → IsNone old ahead → NotNext tag old old
none_next tag old ahead n = record { none = λ c q f. n.none tag c q f.tag f.bytes; at = refl; rest = refl }

-- one with another tag does
pub other_next : (tag : ℕ) (old ahead : Cursor) (e : Element) → IsNext old e ahead → (e.tag ≡ tag → ⊥) → NotNext tag old old
other_next tag old ahead e n apart = record {
  none = λ c q f. apart (same_tag old.rest.now e.tag tag e.inside.rest.now c ahead.rest.now q n.first f);
  at = refl;
  rest = refl;
}

-- no bytes begin with no element
pub none_in_nothing : (string : List ℕ) → length string ≡ 0 → NoFirst string
none_in_nothing string e t c q tag bytes = omega (arith, some_bytes t c q, ap length bytes)
