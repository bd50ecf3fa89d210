pub mod Determined
pub mod Outcomes
pub mod Shapes
