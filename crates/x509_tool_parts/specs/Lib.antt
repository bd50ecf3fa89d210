pub mod Faults
pub mod Input
pub mod Outcomes
pub mod Output
pub mod Stops
pub mod Text
pub mod facts
