use Rattle.std.proofs.Common.{◌≡◌, arith, ap, sym, ◌∙◌, drop}
use Rattle.x509_der.specs.facts.OidContent.{this_arc, arcs_on, no_arc}
use Rattle.x509_der.proofs.oid.ObjectIdentifier.arc.Goals as goal

pub returns-in_err-next : goal.returns-in_err-next
returns-in_err-next g c = rw c.from_residual.ensures (no_arc c.args.self.now c.loop-place._place c.args.index (sym c.in_err-next.ensures.steps.0 ∙ c.loop-place.invariant) c.loop-place-test.true)

pub loop-place-preserved : goal.loop-place-preserved
loop-place-preserved g c = arcs_on c.args.self.now c.loop-place.own c.next.new.self c.loop-place._place c.in_ok-next.field-0 c.loop-place.invariant c.in_ok-next.ensures.steps

pub returns : goal.returns
returns g c =
    let e : c.loop-place._place ≡ c.args.index = omega (arith, c.loop-place-test.false, c.loop-place.auto) in
    this_arc c.args.self.now c.loop-place.own c.next-2.new.self c.args.index c.next-2.result (c.loop-place.invariant ∙ ap (λ i. drop i c.args.self.now) e) c.next-2.ensures.steps
