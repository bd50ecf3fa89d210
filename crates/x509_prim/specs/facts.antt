-- Lemmas about the definitions.
pub use Rattle.x509_prim_parts.specs.facts.Times
pub mod Texts
