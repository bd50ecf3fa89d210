-- What names stand for.
pub mod Names
