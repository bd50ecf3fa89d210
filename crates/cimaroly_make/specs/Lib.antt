-- What stands in descriptions.
pub mod Authorities
