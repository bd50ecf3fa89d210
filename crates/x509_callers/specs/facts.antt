-- Lemmas about what callers promise.
pub mod AlternativeNames
pub mod Reports
pub mod Rewriting
