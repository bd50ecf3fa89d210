use Rattle.picky_asn1_x509_parts.specs.facts.AuthorityKeyIdentifierLaws.{authority_marks}
use Rattle.picky_asn1_x509_parts.proofs.laws.authority_key_identifier_marks.Goals as goal

pub returns : goal.returns
returns g c = λ v string y a. authority_marks v string y a
