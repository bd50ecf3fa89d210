use Rattle.std.proofs.Common.{ap, sym, ◌∙◌}
use Rattle.x509_findings_parts.specs.Extensions.{identifies_authority_key}
use Rattle.x509_findings_parts.proofs.OtherViews.{other-identifies_authority_key}
use Rattle.x509_findings_parts.proofs.extension.identifies_authority_key.Goals as goal

pub returns-in_default : goal.returns-in_default
returns-in_default g c =
    sym (ap identifies_authority_key (sym c.extn_value.ensures.value) ∙ other-identifies_authority_key c.extn_value.result c.in_default.not-AuthorityKeyIdentifier)
