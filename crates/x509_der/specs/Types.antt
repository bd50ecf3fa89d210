-- The types of the crate below, and their variants, for clauses and proofs of crates above.
pub use Rattle.x509_der_parts.specs.declared.deviation.Deviation.{Deviation}
pub use Rattle.x509_der_parts.specs.declared.deviation.Deviation.TheVariants as deviation
pub use Rattle.x509_der_parts.specs.declared.deviation.Place.{Place}
pub use Rattle.x509_der_parts.specs.declared.errors.ReadError.{ReadError}
pub use Rattle.x509_der_parts.specs.declared.errors.ReadError.TheVariants as read_error
pub use Rattle.x509_der_parts.specs.declared.errors.Refused.{Refused}
pub use Rattle.x509_der_parts.specs.declared.errors.WriteError.{WriteError}
pub use Rattle.x509_der_parts.specs.declared.errors.WriteError.TheVariants as write_error
pub use Rattle.x509_der_parts.specs.declared.errors.SliceError.{SliceError}
pub use Rattle.x509_der_parts.specs.declared.errors.SliceError.TheVariants as slice_error
pub use Rattle.x509_der_parts.specs.declared.errors.TooLong.{TooLong}
pub use Rattle.x509_der_parts.specs.declared.choice.Choice.{Choice}
pub use Rattle.x509_der_parts.specs.declared.choice.Choice.TheVariants as choice
pub use Rattle.x509_der_parts.specs.declared.element.Element.{Element}
