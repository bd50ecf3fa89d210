use Rattle.std.proofs.Common.{ap, sym, ◌∙◌}
use Rattle.picky_asn1_x509.specs.LookUps.{held_by}
use Rattle.x509_callers.specs.AlternativeNames.{names_in}
use Rattle.x509_callers.specs.facts.AlternativeNames.{no_names}
use Rattle.x509_callers.proofs.inspector.alternative_names.Goals as goal

pub returns-in_default : goal.returns-in_default
returns-in_default g c =
    ap (held_by names_in) c.in_ok-extension.ensures
    ∙ ap names_in (sym c.extn_value.ensures.value)
    ∙ no_names c.extn_value.result c.in_default.not-SubjectAltName
