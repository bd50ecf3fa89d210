-- What rules ask that takes memory to tell, each from its clause.
pub mod Orders
pub mod Repeats
