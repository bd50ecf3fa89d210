use Rattle.std.proofs.Common.{ap, sym, ◌∙◌}
use Rattle.x509_findings_parts.specs.Extensions.{spells_default}
use Rattle.x509_findings_parts.proofs.OtherViews.{other-spells_default}
use Rattle.x509_findings_parts.proofs.extension.spells_default.Goals as goal

pub returns-in_default : goal.returns-in_default
returns-in_default g c =
    sym (ap spells_default (sym c.extn_value.ensures.value) ∙ other-spells_default c.extn_value.result c.in_default.not-BasicConstraints)
