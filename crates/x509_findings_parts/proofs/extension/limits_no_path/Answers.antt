use Rattle.std.proofs.Common.{ap, sym, ◌∙◌}
use Rattle.x509_findings_parts.specs.Extensions.{limits_no_path}
use Rattle.x509_findings_parts.proofs.OtherViews.{other-limits_no_path}
use Rattle.x509_findings_parts.proofs.extension.limits_no_path.Goals as goal

pub returns-in_default : goal.returns-in_default
returns-in_default g c =
    sym (ap limits_no_path (sym c.extn_value.ensures.value) ∙ other-limits_no_path c.extn_value.result c.in_default.not-BasicConstraints)
