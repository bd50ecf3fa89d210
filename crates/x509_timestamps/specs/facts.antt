-- Lemmas about the definitions.
pub mod Lists
pub mod Timestamps
pub mod Vectors
