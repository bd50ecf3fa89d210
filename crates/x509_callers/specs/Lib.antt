-- What callers promise.
pub mod AlternativeNames
pub mod Importing
pub mod Reports
pub mod Requested
pub mod Rewriting
pub mod facts
