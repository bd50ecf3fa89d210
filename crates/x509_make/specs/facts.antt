-- Lemmas.
pub mod Assembled
