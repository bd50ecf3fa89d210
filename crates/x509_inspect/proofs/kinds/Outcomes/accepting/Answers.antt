use Rattle.std.proofs.Common.{◌≡◌, suc, take, drop, None}
use Rattle.std.proofs.lemmas.Bool.{false≢true}
use Rattle.std.proofs.Math.Seq.{split_at}
use Rattle.x509_inspect.specs.Determined.{outcome_of}
use Rattle.x509_inspect.proofs.Furthest.{all_take, all_taken}
use Rattle.x509_inspect.proofs.kinds.Outcomes.accepting.Goals as goal

pub loop-kind-preserved : goal.loop-kind-preserved
loop-kind-preserved c = all_take (λ k. outcome_of c.args.self.now k ≡ None → ⊥) c.args.kinds.now c.loop-kind.kind-index _ c.loop-kind-test.true c.loop-kind.invariant (λ e. absurd (false≢true (c.if-accepts.ensures.1 e)))

pub returns-then-accepts : goal.returns-then-accepts
returns-then-accepts c = record {
  front = take c.loop-kind.kind-index c.args.kinds.now;
  back = drop (suc c.loop-kind.kind-index) c.args.kinds.now;
  stands = split_at c.args.kinds.now c.loop-kind.kind-index _ c.loop-kind-test.true;
  accepts = c.accepts.ensures.0 c.if-accepts.true;
  refuse = c.loop-kind.invariant;
}

pub returns : goal.returns
returns c = all_taken (λ k. outcome_of c.args.self.now k ≡ None → ⊥) c.args.kinds.now c.loop-kind.kind-index c.loop-kind-test.false c.loop-kind.invariant
