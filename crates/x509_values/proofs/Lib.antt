-- Lemmas about what is told of a list's items.
pub mod Filling
pub mod Telling
pub mod TellingNames
pub mod TellingGeneralNames
pub mod TellingPurposes
pub mod TellingExtensions
pub mod TellingCertificates
pub mod Hosting
pub mod Usages
