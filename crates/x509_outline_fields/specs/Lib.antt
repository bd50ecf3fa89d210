-- Where the fields of outlines stand.
pub mod Certificates
pub mod Lists
pub mod PrivateKeys
pub mod Requests
pub mod Walks
pub mod facts
