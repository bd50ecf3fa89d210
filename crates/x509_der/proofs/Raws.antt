-- Whether bytes are one element.
use Rattle.std.proofs.Common.{◌≡◌, ◌↔◌, ◌==◌, ◌+◌, ℕ, List, [], ◌∷◌, ◌++◌, length, refl, ap, sym, ◌∙◌, append-nil, length-append, arith, eqb-true, eq-eqb}
use Rattle.std.specs.Prelude.{IsTrue}
use Rattle.x509_der_parts.specs.declared.element.Element.{Element}
use Rattle.x509_der_parts.specs.Element.{element}
use Rattle.x509_der_parts.specs.facts.Element.{element_one, element_length}
use Rattle.x509_der_parts.specs.Reading.{IsRaw, NoFirst}
use Rattle.x509_der_parts.specs.FirstElement.{FoundAt}

empty : (q : List ℕ) → length q ≡ 0 → q ≡ []
empty [] z = refl
empty (c ∷ q) z = absurd (omega (arith, z))

-- an element that stands at the front is all, exactly where it ends with the string
pub raw_all : (string : List ℕ) (e : Element) → FoundAt string e → IsTrue (e.end == length string) ↔ IsRaw string
raw_all string e f =
    let c = f.content in
    let size : length string ≡ e.end + length f.after = omega (arith, f.end, ap length f.first.bytes, length-append (element e.tag c) f.after, element_length e.tag c) in (
      λ t.
          let none : f.after ≡ [] = empty f.after (omega (arith, size, eqb-true _ _ t)) in
          record { tag = e.tag; content = c; fits = f.first.tag; byte = f.first.byte; bytes = f.first.bytes ∙ ap (λ x. element e.tag c ++ x) none ∙ append-nil (element e.tag c) },
      λ h.
          let k = element_one h.tag e.tag h.content c [] f.after (append-nil _ ∙ sym h.bytes ∙ f.first.bytes) in
          eq-eqb _ _ (omega (arith, size, ap length k.rest)),
    )

pub raw_none : (string : List ℕ) → NoFirst string → IsRaw string → ⊥
raw_none string n h = n h.tag h.content [] h.fits (h.bytes ∙ sym (append-nil _))
