use Rattle.std.proofs.Common.{ap, sym, ◌∙◌}
use Rattle.picky_asn1_x509.specs.LookUps.{held_by, subject_key_in}
use Rattle.picky_asn1_x509.specs.facts.LookUps.{no_subject_key}
use Rattle.picky_asn1_x509.proofs.certificate.Certificate.subject_key_identifier.Goals as goal

pub returns-in_default : goal.returns-in_default
returns-in_default g c =
    ap (held_by subject_key_in) c.in_ok-extension.ensures
    ∙ ap subject_key_in (sym c.extn_value.ensures.value)
    ∙ no_subject_key c.extn_value.result c.in_default.not-SubjectKeyIdentifier
