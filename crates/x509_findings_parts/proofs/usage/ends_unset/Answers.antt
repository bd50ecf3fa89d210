use Rattle.std.proofs.Common.{ap, sym, ◌∙◌}
use Rattle.x509_findings_parts.specs.Usages.{ends_unset}
use Rattle.x509_findings_parts.proofs.OtherViews.{other-ends_unset}
use Rattle.x509_findings_parts.proofs.usage.ends_unset.Goals as goal

pub returns-in_default : goal.returns-in_default
returns-in_default g c =
    sym (ap ends_unset (sym c.extn_value.ensures.value) ∙ other-ends_unset c.extn_value.result c.in_default.not-KeyUsage)
