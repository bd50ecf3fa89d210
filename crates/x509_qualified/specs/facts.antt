-- Lemmas about the definitions.
pub mod CertificateTemplate
pub mod structures
