pub mod CertificateTemplate
pub mod DirectoryAttribute
pub mod NetscapeCertType
pub mod QcStatement
pub mod facts
pub mod fields
