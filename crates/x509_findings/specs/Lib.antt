-- What is wrong with certificates, and where.
pub mod Conditions
pub mod Broken
pub mod Places
pub mod Findings
pub mod Requests
pub mod RequestFindings
