-- Lemmas about what is told.
pub mod Elements
pub mod UnixTimes
pub mod Values
