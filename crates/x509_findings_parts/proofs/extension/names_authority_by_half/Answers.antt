use Rattle.std.proofs.Common.{ap, sym, ◌∙◌}
use Rattle.x509_findings_parts.specs.Extensions.{names_authority_by_half}
use Rattle.x509_findings_parts.proofs.OtherViews.{other-names_authority_by_half}
use Rattle.x509_findings_parts.proofs.extension.names_authority_by_half.Goals as goal

pub returns-in_default : goal.returns-in_default
returns-in_default g c =
    sym (ap names_authority_by_half (sym c.extn_value.ensures.value) ∙ other-names_authority_by_half c.extn_value.result c.in_default.not-AuthorityKeyIdentifier)
