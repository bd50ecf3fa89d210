use Rattle.std.proofs.Common.{◌≡◌, None, refl}
use Rattle.x509_inspect.specs.Determined.{outcome_of}
use Rattle.x509_inspect.proofs.Furthest.{all_take, all_taken}
use Rattle.x509_inspect.proofs.kinds.Outcomes.is_only.Goals as goal

pub loop-other-preserved : goal.loop-other-preserved
loop-other-preserved c = all_take (λ k. outcome_of c.args.self.now k ≡ None → k ≡ c.args.kind) c.args.kinds.now c.loop-other.other-index _ c.loop-other-test.true c.loop-other.invariant (c.if-not-leaves.ensures.0 refl)

pub returns : goal.returns
returns c = (λ t. all_taken (λ k. outcome_of c.args.self.now k ≡ None → k ≡ c.args.kind) c.args.kinds.now c.loop-other.other-index c.loop-other-test.false c.loop-other.invariant, λ h. refl)
