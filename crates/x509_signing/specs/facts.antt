-- Lemmas.
pub mod Elements
pub mod SignatureFields
