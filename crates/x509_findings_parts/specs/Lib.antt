-- What the rules ask, each from its clause.
pub mod Numbers
pub mod Times
pub mod Usages
pub mod Keys
pub mod Algorithms
pub mod Known
pub mod Extensions
pub mod AlternativeNames
pub mod Texts
pub mod Hosts
pub mod Features
