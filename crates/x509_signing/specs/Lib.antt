-- What signers give and need.
pub mod Elements
pub mod RawSignatures
pub mod SignatureFields
pub mod facts
