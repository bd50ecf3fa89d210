-- Lemmas about the definitions.
pub mod OutcomeFacts
pub mod TextFacts
