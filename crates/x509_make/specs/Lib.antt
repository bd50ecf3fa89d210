-- What is put together.
pub mod Signatures
pub mod Assembled
pub mod facts
