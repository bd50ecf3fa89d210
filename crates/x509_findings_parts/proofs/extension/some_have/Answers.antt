use Rattle.std.proofs.Common.{sym, ◌∙◌}
use Rattle.x509_findings_parts.specs.Features.{has_feature}
use Rattle.x509_findings_parts.proofs.FirstFeature.{had_here, had_later, had_nowhere}
use Rattle.x509_findings_parts.proofs.extension.some_have.Goals as goal

pub returns-then-has_feature : goal.returns-then-has_feature
returns-then-has_feature g c =
    sym (had_here (has_feature c.args.feature) c.args.extensions.now c.loop-extension.extension-index c.extension-item.result c.loop-extension-test.true c.extension-item.is (sym c.has_feature.ensures ∙ c.if-has_feature.true)) ∙ c.loop-extension.invariant

pub loop-extension-preserved : goal.loop-extension-preserved
loop-extension-preserved g c =
    sym (had_later (has_feature c.args.feature) c.args.extensions.now c.loop-extension.extension-index c.extension-item.result c.loop-extension-test.true c.extension-item.is (sym c.has_feature.ensures ∙ c.if-has_feature.false)) ∙ c.loop-extension.invariant

pub returns : goal.returns
returns g c = sym (had_nowhere (has_feature c.args.feature) c.args.extensions.now c.loop-extension.extension-index c.loop-extension-test.false) ∙ c.loop-extension.invariant
