use Rattle.std.proofs.Common.{ap, sym, ◌∙◌}
use Rattle.x509_findings_parts.specs.Extensions.{has_any_purpose}
use Rattle.x509_findings_parts.proofs.OtherViews.{other-has_any_purpose}
use Rattle.x509_findings_parts.proofs.purpose.has_any_purpose.Goals as goal

pub returns-in_default : goal.returns-in_default
returns-in_default g c =
    sym (ap has_any_purpose (sym c.extn_value.ensures.value) ∙ other-has_any_purpose c.extn_value.result c.in_default.not-ExtendedKeyUsage)
