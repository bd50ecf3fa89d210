-- Lemmas about the definitions.
pub use Rattle.picky_asn1_x509_parts.specs.facts.AttributeFacts
pub use Rattle.picky_asn1_x509_parts.specs.facts.AttributeSame
pub use Rattle.picky_asn1_x509_parts.specs.facts.AuthorityKeyIdentifierFacts
pub use Rattle.picky_asn1_x509_parts.specs.facts.AuthorityKeyIdentifierLaws
pub use Rattle.picky_asn1_x509_parts.specs.facts.BasicConstraints
pub use Rattle.picky_asn1_x509_parts.specs.facts.ExtensionFacts
pub use Rattle.picky_asn1_x509_parts.specs.facts.ExtensionListFacts
pub use Rattle.picky_asn1_x509_parts.specs.facts.KeyUsages
pub mod Certificates
pub mod LookUps
pub mod OlderCertificates
pub mod Refusals
pub mod Requests
pub mod TbsBriefs
pub mod TbsCertificates
