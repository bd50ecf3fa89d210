-- The names of object identifiers.
pub mod Names
pub mod facts
