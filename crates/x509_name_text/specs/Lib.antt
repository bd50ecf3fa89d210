-- What is told of names.
pub mod Texts
