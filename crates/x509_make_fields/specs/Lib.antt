-- What is taken of other structures.
pub mod KeyBits
