use Rattle.std.proofs.Common.{◌≡◌, ℕ, ◌+◌, ◌<◌, ◌≤◌, List, length, IsTrue, false, arith}
use Rattle.std.proofs.lemmas.Bool.{false≢true}
use Rattle.memchr.specs.Find.{Nowhere, OccursAt}
use Rattle.cimaroly_work.proofs.form.has_block.Goals as goal

nowhere : (hay needle : List ℕ) (at : ℕ) → OccursAt hay needle at → Nowhere (OccursAt hay needle) 0 (length hay + 1) → ⊥
nowhere hay needle at o none = none at (omega arith) (omega (arith, o.fits)) o

pub returns-in-None : goal.returns-in-None
returns-in-None c = (λ e. absurd (false≢true e), λ h. absurd (nowhere _ _ h.0 h.1 c.in-None.ensures))
