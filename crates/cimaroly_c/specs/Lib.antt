-- What the exports answer.
pub mod Exports
pub mod Oids
pub mod Pem
