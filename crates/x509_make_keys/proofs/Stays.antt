-- What is written stays as it is.
use Rattle.std.proofs.Common.{◌≡◌, ◌∙◌, ℕ, List, [], Vec, ap, sym, append-nil}
use Rattle.x509_make_parts.specs.Appending.{Appends}
use Rattle.x509_make_parts.specs.facts.Appending.{is_behind}

-- nothing stands behind it
pub nothing : (a : List ℕ) → Appends a a
nothing a = is_behind a a [] (sym (append-nil a))

-- as going back from a place leaves it
pub stays : {A : Type 0} {old new : Vec ℕ A} → new ≡ old → Appends old.items new.items
stays {A = A} {old = old} {new = new} same = is_behind old.items new.items [] (ap (λ (v : Vec ℕ A). v.items) same ∙ sym (append-nil old.items))
