-- What is told of object identifiers.
pub mod Names
pub mod Texts
