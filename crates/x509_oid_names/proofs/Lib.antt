-- What the last arc and those before it are.
pub mod Arcs
