-- What writing appends.
pub mod Appending
pub mod facts
