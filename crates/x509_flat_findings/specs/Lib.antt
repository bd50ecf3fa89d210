-- Which rules a certificate breaks, as it is told.
pub mod Findings
pub mod RequestFindings
