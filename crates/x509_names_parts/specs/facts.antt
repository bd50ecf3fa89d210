-- Lemmas about the definitions.
pub mod DirectoryStrings
pub mod Time
pub mod Validities
pub mod Versions
