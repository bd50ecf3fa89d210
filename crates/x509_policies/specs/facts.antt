-- Lemmas about the definitions.
pub mod VisibleString
pub mod structures
