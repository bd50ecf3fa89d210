use Rattle.std.proofs.Common.{ap, sym, ◌∙◌}
use Rattle.x509_findings_parts.specs.Extensions.{makes_authority}
use Rattle.x509_findings_parts.proofs.OtherViews.{other-makes_authority}
use Rattle.x509_findings_parts.proofs.extension.makes_authority.Goals as goal

pub returns-in_default : goal.returns-in_default
returns-in_default g c =
    sym (ap makes_authority (sym c.extn_value.ensures.value) ∙ other-makes_authority c.extn_value.result c.in_default.not-BasicConstraints)
