-- What making a structure of a description tells.
use Rattle.std.specs.Prelude.{ℕ, List}
use Rattle.x509_flat.specs.declared.status.Status.{Status}
use Rattle.x509_flat_make.specs.Making.{Makes}
use Rattle.x509_make_whole.specs.Encodings.{IsMade}
use Rattle.x509_make_whole.specs.declared.made.Made.{Made}

-- the DER encoding of some value of a type that can be made
abbrev pub DescribesTo : (A : Type 0) → (old new : List ℕ) → Status → ℕ → Type 0
DescribesTo A = Makes (λ b. (made : Made) × IsMade A made b) (Unit {0}) ⊥

-- some text
abbrev pub Explains : (old new : List ℕ) → Status → ℕ → Type 0
Explains = Makes (λ b. Unit {0}) (Unit {0}) ⊥
