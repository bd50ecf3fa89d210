-- Blocks of PEM that are written.
pub mod Blocks
pub mod facts
