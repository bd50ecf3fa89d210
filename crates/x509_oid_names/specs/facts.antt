-- Lemmas about the definitions.
pub mod Long
