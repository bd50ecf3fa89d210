-- What the calls tell that write what they make.
pub mod Making
pub mod Assembling
pub mod facts
pub mod Describing
