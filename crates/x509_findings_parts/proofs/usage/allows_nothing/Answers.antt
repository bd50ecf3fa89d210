use Rattle.std.proofs.Common.{ap, sym, ◌∙◌}
use Rattle.x509_findings_parts.specs.Usages.{allows_nothing}
use Rattle.x509_findings_parts.proofs.OtherViews.{other-allows_nothing}
use Rattle.x509_findings_parts.proofs.usage.allows_nothing.Goals as goal

pub returns-in_default : goal.returns-in_default
returns-in_default g c =
    sym (ap allows_nothing (sym c.extn_value.ensures.value) ∙ other-allows_nothing c.extn_value.result c.in_default.not-KeyUsage)
