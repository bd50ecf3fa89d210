-- Lemmas about the definitions.
pub mod Times
