-- The definitions and lemmas of the crate below, which crates above name by this one.
pub use Rattle.x509_prim_parts.specs.Calendar
pub use Rattle.x509_prim_parts.specs.Times
pub mod CharSets
pub mod Texts
pub mod Utf16
pub mod facts
