-- Lemmas about labels.
pub mod Labels
