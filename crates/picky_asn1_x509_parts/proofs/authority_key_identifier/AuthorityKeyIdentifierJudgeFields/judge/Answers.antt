use Rattle.std.proofs.Common.{ap, refl, ◌∙◌, Some}
use Rattle.picky_asn1_x509_parts.specs.AuthorityKeyIdentifier.{authority_of}
use Rattle.picky_asn1_x509_parts.specs.facts.AuthorityOrder.{ordered_kinds, disordered_kinds}
use Rattle.picky_asn1_x509_parts.proofs.authority_key_identifier.AuthorityKeyIdentifierJudgeFields.judge.Goals as goal

pub returns-then-brief : goal.returns-then-brief
returns-then-brief g c = λ f e. (authority_of f, ap (λ ks. Some (authority_of f, ks)) (ordered_kinds f (e ∙ c.if-brief.true)), refl)

pub returns-else-brief : goal.returns-else-brief
returns-else-brief g c = λ f e. (authority_of f, ap (λ ks. Some (authority_of f, ks)) (disordered_kinds f (e ∙ c.if-brief.false)), refl)
