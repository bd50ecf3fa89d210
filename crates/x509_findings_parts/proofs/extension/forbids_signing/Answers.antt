use Rattle.std.proofs.Common.{ap, sym, ◌∙◌}
use Rattle.x509_findings_parts.specs.Extensions.{forbids_signing}
use Rattle.x509_findings_parts.proofs.OtherViews.{other-forbids_signing}
use Rattle.x509_findings_parts.proofs.extension.forbids_signing.Goals as goal

pub returns-in_default : goal.returns-in_default
returns-in_default g c =
    sym (ap forbids_signing (sym c.extn_value.ensures.value) ∙ other-forbids_signing c.extn_value.result c.in_default.not-KeyUsage)
