-- Lemmas about the definitions.
pub mod PrivateKeys
pub mod PublicBits
pub mod Requests
