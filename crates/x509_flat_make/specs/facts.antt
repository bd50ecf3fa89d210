-- Lemmas.
pub mod Making
