-- Lemmas about the definitions.
pub mod AttributeFacts
pub mod AttributeReadable
pub mod AttributeSame
pub mod AuthorityKeyIdentifierFacts
pub mod AuthorityKeyIdentifierLaws
pub mod BasicConstraints
pub mod ExtensionFacts
pub mod ExtensionListFacts
pub mod ExtensionOctets
pub mod FirstExtensions
pub mod KeyUsages
pub mod ExtensionKeys
pub mod AuthorityOrder
