-- The last element with a tag, of those that a loop went past.
use Rattle.std.proofs.Common.{◌≡◌, ◌+◌, ◌≤◌, ℕ, List, [], ◌∷◌, ◌++◌, length, Option, Some, None, refl, ap, ◌∙◌, subst, arith}
use Rattle.std.specs.Option.{MatchOption}
use Rattle.std.proofs.lemmas.List.{append_assoc}
use Rattle.std.proofs.lemmas.List.Elements.{All-nil, All-push}
use Rattle.x509_report_parts.specs.Cursors.{IsNext, GoesPast, Without, IsLastOf, Last}
use Rattle.x509_report_parts.specs.declared.cursor.Cursor.{Cursor}
use Rattle.x509_report_parts.specs.declared.cursor.Element.{Element}
use Rattle.x509_report_parts.proofs.Firsts.{first_shorter, none_in_nothing}

-- after so many turns: the elements that were gone past, and the last of them with the tag
pub record SoFar (start cursor : Cursor) (tag : ℕ) (found : Option Element) (turns : ℕ) : Type 0 where
  pub all : List Element
  pub past : GoesPast start all cursor
  pub last : MatchOption found (Without tag all) (IsLastOf tag all)
  pub left : length cursor.rest.now + turns ≤ length start.rest.now

past_more : (start : Cursor) (es : List Element) (mid : Cursor) (e : Element) (new : Cursor) → GoesPast start es mid → IsNext mid e new → GoesPast start (es ++ e ∷ []) new
past_more start [] mid e new p n =
    let P : Cursor → Type 0 = λ c. IsNext c e new in
    (new, subst P p n, refl)
past_more start (x ∷ xs) mid e new p n = (p.0, p.1, past_more p.0 xs mid e new p.2 n)

left_more : (start mid : Cursor) (e : Element) (new : Cursor) (turns : ℕ) → IsNext mid e new → length mid.rest.now + turns ≤ length start.rest.now → length new.rest.now + (turns + 1) ≤ length start.rest.now
left_more start mid e new turns n l =
    omega (arith, first_shorter mid.rest.now e.tag e.inside.rest.now new.rest.now n.first)

-- an element with the tag
pub found_more : (start mid : Cursor) (tag : ℕ) (found : Option Element) (turns : ℕ) (e : Element) (new : Cursor) → SoFar start mid tag found turns → IsNext mid e new → e.tag ≡ tag → SoFar start new tag (Some e) (turns + 1)
found_more start mid tag found turns e new s n t = record {
  all = s.all ++ e ∷ [];
  past = past_more start s.all mid e new s.past n;
  last = record { before = s.all; after = []; split = refl; tagged = t; others = All-nil (λ x. x.tag ≡ tag → ⊥) };
  left = left_more start mid e new turns n s.left;
}

still_last : (tag : ℕ) (es : List Element) (found : Option Element) (e : Element) → (e.tag ≡ tag → ⊥) → MatchOption found (Without tag es) (IsLastOf tag es) → MatchOption found (Without tag (es ++ e ∷ [])) (IsLastOf tag (es ++ e ∷ []))
still_last tag es None e t m = All-push (λ x. x.tag ≡ tag → ⊥) es e m t
still_last tag es (Some x) e t m = record {
  before = m.before;
  after = m.after ++ e ∷ [];
  split = ap (λ l. l ++ e ∷ []) m.split ∙ append_assoc m.before (x ∷ m.after) (e ∷ []);
  tagged = m.tagged;
  others = All-push (λ x. x.tag ≡ tag → ⊥) m.after e m.others t;
}

-- one with another tag
pub other_more : (start mid : Cursor) (tag : ℕ) (found : Option Element) (turns : ℕ) (e : Element) (new : Cursor) → SoFar start mid tag found turns → IsNext mid e new → (e.tag ≡ tag → ⊥) → SoFar start new tag found (turns + 1)
other_more start mid tag found turns e new s n t = record {
  all = s.all ++ e ∷ [];
  past = past_more start s.all mid e new s.past n;
  last = still_last tag s.all found e t s.last;
  left = left_more start mid e new turns n s.left;
}

-- nothing is left after as many turns as there were bytes
pub found_last : (start cursor : Cursor) (tag : ℕ) (found : Option Element) (turns : ℕ) → SoFar start cursor tag found turns → length start.rest.now ≤ turns → Last start tag found
found_last start cursor tag found turns s l = record {
  all = s.all;
  elements = record { end = cursor; past = s.past; none = none_in_nothing cursor.rest.now (omega (arith, s.left)) };
  last = s.last;
}
