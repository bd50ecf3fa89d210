pub mod CertificateLists
pub mod Revoked
pub mod TbsCertLists
pub mod facts
