pub mod Algorithms
pub mod AttributeValues
pub mod Attributes
pub mod Extensions
pub mod Names
pub mod PublicKeys
pub mod facts
