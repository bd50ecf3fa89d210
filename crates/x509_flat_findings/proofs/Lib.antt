-- Findings, one behind the other.
pub mod Told
