-- What follows of appending.
pub mod Appending
