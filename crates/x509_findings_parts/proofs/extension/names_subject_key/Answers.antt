use Rattle.std.proofs.Common.{ap, sym, ◌∙◌}
use Rattle.x509_findings_parts.specs.Extensions.{names_subject_key}
use Rattle.x509_findings_parts.proofs.OtherViews.{other-names_subject_key}
use Rattle.x509_findings_parts.proofs.extension.names_subject_key.Goals as goal

pub returns-in_default : goal.returns-in_default
returns-in_default g c =
    sym (ap names_subject_key (sym c.extn_value.ensures.value) ∙ other-names_subject_key c.extn_value.result c.in_default.not-SubjectKeyIdentifier)
