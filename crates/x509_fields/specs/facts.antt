-- Lemmas about the walk over elements, and about each type.
pub mod Slices
pub mod Steps
pub mod Fields
pub mod Chains
pub mod Certificates
pub mod Extensions
pub mod ExtensionLists
pub mod Keys
pub mod Requests
