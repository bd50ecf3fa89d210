-- Lemmas about the definitions.
pub mod structures
