-- The types of the crate below, and their variants, for clauses and proofs of crates above.
pub use Rattle.x509_names_parts.specs.declared.validity.Validity.{Validity}
pub use Rattle.x509_names_parts.specs.declared.version.Version.{Version}
pub use Rattle.x509_names_parts.specs.declared.version.Version.TheVariants as version
pub use Rattle.x509_names_parts.specs.declared.time.Time.{Time}
pub use Rattle.x509_names_parts.specs.declared.time.Time.TheVariants as time
pub use Rattle.x509_names_parts.specs.declared.directory_string.DirectoryString.{DirectoryString}
pub use Rattle.x509_names_parts.specs.declared.directory_string.DirectoryString.TheVariants as directory_string
