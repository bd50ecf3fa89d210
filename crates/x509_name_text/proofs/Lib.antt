-- Lemmas about what is written.
pub mod AttributeTexts
pub mod Elements
pub mod Escapes
pub mod Names
pub mod Sets
pub mod Surrogates
pub mod TypeTexts
pub mod Values
pub mod Writing
