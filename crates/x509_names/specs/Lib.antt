-- The definitions and lemmas of the crate below, which crates above name by this one.
pub use Rattle.x509_names_parts.specs.DirectoryStrings
pub use Rattle.x509_names_parts.specs.DirectoryTexts
pub use Rattle.x509_names_parts.specs.Time
pub use Rattle.x509_names_parts.specs.Validities
pub use Rattle.x509_names_parts.specs.Versions
pub mod AttributeFields
pub mod Attributes
pub mod CommonNames
pub mod EdiPartyNames
pub mod GeneralNames
pub mod NameTexts
pub mod Names
pub mod OtherNames
pub mod Types
pub mod facts
