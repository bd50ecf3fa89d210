use Rattle.std.proofs.Common.{sym, ◌∙◌}
use Rattle.x509_findings_parts.specs.AlternativeNames.{has_fault}
use Rattle.x509_findings_parts.proofs.FirstFeature.{had_here, had_later, had_nowhere}
use Rattle.x509_findings_parts.proofs.alternative_name.some_have_fault.Goals as goal

pub returns-then-has_fault : goal.returns-then-has_fault
returns-then-has_fault g c =
    sym (had_here (has_fault c.args.fault) c.args.names.now c.loop-name.name-index c.name-item.result c.loop-name-test.true c.name-item.is (sym c.has_fault.ensures ∙ c.if-has_fault.true)) ∙ c.loop-name.invariant

pub loop-name-preserved : goal.loop-name-preserved
loop-name-preserved g c =
    sym (had_later (has_fault c.args.fault) c.args.names.now c.loop-name.name-index c.name-item.result c.loop-name-test.true c.name-item.is (sym c.has_fault.ensures ∙ c.if-has_fault.false)) ∙ c.loop-name.invariant

pub returns : goal.returns
returns g c = sym (had_nowhere (has_fault c.args.fault) c.args.names.now c.loop-name.name-index c.loop-name-test.false) ∙ c.loop-name.invariant
