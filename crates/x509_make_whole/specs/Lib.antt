-- What is made of descriptions.
pub mod Encodings
