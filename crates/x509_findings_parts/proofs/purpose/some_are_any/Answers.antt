use Rattle.std.proofs.Common.{sym, ◌∙◌}
use Rattle.x509_der.specs.ObjectIdentifier.{is_arcs}
use Rattle.picky_asn1_x509_parts.specs.Extensions.{any_usage_arcs}
use Rattle.x509_findings_parts.proofs.FirstFeature.{had_here, had_later, had_nowhere}
use Rattle.x509_findings_parts.proofs.purpose.some_are_any.Goals as goal

pub returns-then-is_any : goal.returns-then-is_any
returns-then-is_any g c =
    sym (had_here (λ purpose. is_arcs purpose any_usage_arcs) c.args.purposes.now c.loop-purpose.purpose-index c.purpose-item.result c.loop-purpose-test.true c.purpose-item.is (sym c.is_any.ensures ∙ c.if-is_any.true)) ∙ c.loop-purpose.invariant

pub loop-purpose-preserved : goal.loop-purpose-preserved
loop-purpose-preserved g c =
    sym (had_later (λ purpose. is_arcs purpose any_usage_arcs) c.args.purposes.now c.loop-purpose.purpose-index c.purpose-item.result c.loop-purpose-test.true c.purpose-item.is (sym c.is_any.ensures ∙ c.if-is_any.false)) ∙ c.loop-purpose.invariant

pub returns : goal.returns
returns g c = sym (had_nowhere (λ purpose. is_arcs purpose any_usage_arcs) c.args.purposes.now c.loop-purpose.purpose-index c.loop-purpose-test.false) ∙ c.loop-purpose.invariant
