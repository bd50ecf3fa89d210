pub mod Certificates
pub mod SignedParts
pub mod TbsCertificates
pub mod Versions
pub mod facts
