-- Lemmas about the definitions.
pub mod Octets
