-- What the calls answer.
pub mod Checks
pub mod Constraints
pub mod Encodings
pub mod Extensions
pub mod Fields
pub mod Hosts
pub mod Numbers
pub mod Places
pub mod Purposes
pub mod SignedParts
pub mod Spans
pub mod Statuses
pub mod Usages
pub mod Validities
pub mod Values
