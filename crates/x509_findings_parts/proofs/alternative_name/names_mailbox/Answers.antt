use Rattle.std.proofs.Common.{ap, sym, ◌∙◌}
use Rattle.x509_findings_parts.specs.AlternativeNames.{names_mailbox}
use Rattle.x509_findings_parts.proofs.OtherViews.{other-names_mailbox}
use Rattle.x509_findings_parts.proofs.alternative_name.names_mailbox.Goals as goal

pub returns-in_default : goal.returns-in_default
returns-in_default g c =
    sym (ap names_mailbox (sym c.extn_value.ensures.value) ∙ other-names_mailbox c.extn_value.result c.in_default.not-SubjectAltName)
