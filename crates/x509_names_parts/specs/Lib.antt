pub mod DirectoryStrings
pub mod DirectoryTexts
pub mod Time
pub mod Validities
pub mod Versions
pub mod facts
