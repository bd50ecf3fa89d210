use Rattle.std.proofs.Common.{ap, sym, ◌∙◌}
use Rattle.x509_findings_parts.specs.Extensions.{says_usage}
use Rattle.x509_findings_parts.proofs.OtherViews.{other-says_usage}
use Rattle.x509_findings_parts.proofs.extension.says_usage.Goals as goal

pub returns-in_default : goal.returns-in_default
returns-in_default g c =
    sym (ap says_usage (sym c.extn_value.ensures.value) ∙ other-says_usage c.extn_value.result c.in_default.not-KeyUsage)
