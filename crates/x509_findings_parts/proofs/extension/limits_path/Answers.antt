use Rattle.std.proofs.Common.{ap, sym, ◌∙◌}
use Rattle.x509_findings_parts.specs.Extensions.{limits_path}
use Rattle.x509_findings_parts.proofs.OtherViews.{other-limits_path}
use Rattle.x509_findings_parts.proofs.extension.limits_path.Goals as goal

pub returns-in_default : goal.returns-in_default
returns-in_default g c =
    sym (ap limits_path (sym c.extn_value.ensures.value) ∙ other-limits_path c.extn_value.result c.in_default.not-BasicConstraints)
