-- What putting a certificate or a request together tells.
use Rattle.std.specs.Prelude.{◌≡◌, ℕ, ◌≤◌, ◌^◌, List, length}
use Rattle.x509_der.specs.Shape.{Shape}
use Rattle.x509_flat.specs.declared.status.Status.{Status}
use Rattle.x509_flat_make.specs.Making.{Makes}
use Rattle.x509_make.specs.Assembled.{assembled, IsAssembled, WhyNot}
use Rattle.x509_make.specs.declared.assemble.NotAssembled.{NotAssembled}
use Rattle.x509_make.specs.declared.assemble.NotAssembled.TheVariants.{TooLong, OutOfMemory}

-- why a part, an algorithm and a signature make nothing, but for want of memory or length
pub record NotAssembledFor (A : Type 0) {V : Type 0} (s : Shape V) (part algorithm signature : List ℕ) : Type 0 where
  pub why : NotAssembled
  pub memory : why ≡ OutOfMemory → ⊥
  pub long : why ≡ TooLong → ⊥
  pub holds : WhyNot A s part algorithm signature why

-- the part, the algorithm and the signature, put together
abbrev pub AssemblesTo : (A : Type 0) {V : Type 0} → Shape V → (part algorithm signature old new : List ℕ) → Status → ℕ → Type 0
AssemblesTo A s part algorithm signature = Makes (IsAssembled A s part algorithm signature) (NotAssembledFor A s part algorithm signature) (2 ^ 64 ≤ length (assembled part algorithm signature))
