-- Lemmas about the definitions.
pub mod CertificateLists
pub mod Revoked
pub mod TbsBriefs
pub mod TbsCertLists
