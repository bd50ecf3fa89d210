-- What the proofs of several functions share.
pub mod Kept
