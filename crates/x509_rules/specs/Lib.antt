-- What may be wrong with certificates, by name.
pub mod Rules
