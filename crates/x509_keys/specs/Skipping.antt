-- Two fields, an element that may be passed over, and one more field.
use Rattle.std.specs.Prelude.{ℕ, Bool, List, Option}
use Rattle.x509_der.specs.Shape.{Shape}
use Rattle.x509_der.specs.Join.{join, Apart}
use Rattle.x509_der.specs.Optional.{optional}
use Rattle.x509_der.specs.RawIn.{raws_in}

-- an element with a tag of the set, or none, and a field
abbrev pub skip_before : {W : Type 0} → (ℕ → Bool) → Shape W → Shape (Option (List ℕ) × W)
skip_before keep g = join (λ j. j.0) (λ j. j.1) (optional (raws_in keep)) g

-- the same behind a field
abbrev pub skip_between : {V W : Type 0} → Shape V → (ℕ → Bool) → Shape W → Shape (V × (Option (List ℕ) × W))
skip_between f keep g = join (λ j. j.0) (λ j. j.1) f (skip_before keep g)

-- the same behind two
abbrev pub skipping : {U V W : Type 0} → Shape U → Shape V → (ℕ → Bool) → Shape W → Shape (U × (V × (Option (List ℕ) × W)))
skipping e f keep g = join (λ j. j.0) (λ j. j.1) e (skip_between f keep g)

-- each field is told from what follows it
pub record Told {U V W : Type 0} (e : Shape U) (f : Shape V) (keep : ℕ → Bool) (g : Shape W) : Type 0 where
  pub first : Apart e (skip_between f keep g)
  pub second : Apart f (skip_before keep g)
  pub skipped : Apart (optional (raws_in keep)) g
