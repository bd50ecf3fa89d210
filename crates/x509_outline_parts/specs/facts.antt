-- Lemmas about the definitions.
pub mod Algorithms
pub mod AttributeValues
pub mod Attributes
pub mod Extensions
pub mod PublicKeys
