use Rattle.std.proofs.Common.{ap, sym, ◌∙◌}
use Rattle.x509_findings_parts.specs.Features.{some_have}
use Rattle.x509_findings_parts.specs.declared.extension.Feature.TheVariants as feature
use Rattle.x509_findings.proofs.condition.lacks_authority_key.Goals as goal

pub returns : goal.returns
returns g c =
    let none = ap (some_have feature.AuthorityKey) (sym c.extensions.ensures) ∙ sym c.some_have.ensures ∙ c.if-some_have.false in
    (λ t. (none, c.are_other_names.ensures.0 t), λ h. c.are_other_names.ensures.1 h.1)
