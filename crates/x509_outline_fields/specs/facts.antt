-- Lemmas about the walk over each outline.
pub mod Certificates
pub mod Lists
pub mod PrivateKeys
pub mod Requests
pub mod Steps
