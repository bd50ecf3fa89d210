use Rattle.std.proofs.Common.{ap, sym, ◌∙◌}
use Rattle.picky_asn1_x509.specs.LookUps.{held_by, constraints_in}
use Rattle.picky_asn1_x509.specs.facts.LookUps.{no_constraints}
use Rattle.picky_asn1_x509.proofs.certificate.Certificate.basic_constraints.Goals as goal

pub returns-in_default : goal.returns-in_default
returns-in_default g c =
    ap (held_by constraints_in) c.in_ok-extension.ensures
    ∙ ap constraints_in (sym c.extn_value.ensures.value)
    ∙ no_constraints c.extn_value.result c.in_default.not-BasicConstraints
