-- What the calls promise that tell where fields stand.
pub mod Slices
pub mod Spans
pub mod Walks
pub mod Certificates
pub mod Requests
pub mod Keys
pub mod Extensions
pub mod Found
pub mod facts
