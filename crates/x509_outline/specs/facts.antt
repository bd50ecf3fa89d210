-- Lemmas about the definitions.
pub mod Certificates
pub mod Refusals
pub mod TbsBriefs
pub mod TbsCertificates
pub mod Versions
