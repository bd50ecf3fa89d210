-- The algorithms of signatures.
pub mod SignatureAlgorithms
