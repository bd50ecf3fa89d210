use Rattle.std.proofs.Common.{ap, sym, ◌∙◌}
use Rattle.x509_findings_parts.specs.AlternativeNames.{name_has_fault}
use Rattle.x509_findings_parts.proofs.OtherViews.{other-name_has_fault}
use Rattle.x509_findings_parts.proofs.alternative_name.name_has_fault.Goals as goal

pub returns-in_default : goal.returns-in_default
returns-in_default g c =
    sym (ap (name_has_fault c.args.fault) (sym c.extn_value.ensures.value) ∙ other-name_has_fault c.args.fault c.extn_value.result c.in_default.not-SubjectAltName c.in_default.not-IssuerAltName)
