pub mod PrivateKeys
pub mod PublicBits
pub mod Requests
pub mod facts
