-- For which hosts a certificate is.
pub mod Names
pub mod Hosts
