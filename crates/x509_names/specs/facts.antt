-- Lemmas about the definitions.
pub mod AttributeFacts
pub mod AttributeFields
pub mod Attributes
pub mod EdiPartyNames
pub mod GeneralNameFields
pub mod GeneralNames
pub mod NameFacts
pub mod NameTexts
pub mod OtherNames
pub use Rattle.x509_names_parts.specs.facts.Validities
