-- Lemmas.
pub mod Blocks
