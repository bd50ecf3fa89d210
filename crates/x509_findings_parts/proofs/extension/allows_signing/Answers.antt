use Rattle.std.proofs.Common.{ap, sym, ◌∙◌}
use Rattle.x509_findings_parts.specs.Extensions.{allows_signing}
use Rattle.x509_findings_parts.proofs.OtherViews.{other-allows_signing}
use Rattle.x509_findings_parts.proofs.extension.allows_signing.Goals as goal

pub returns-in_default : goal.returns-in_default
returns-in_default g c =
    sym (ap allows_signing (sym c.extn_value.ensures.value) ∙ other-allows_signing c.extn_value.result c.in_default.not-KeyUsage)
