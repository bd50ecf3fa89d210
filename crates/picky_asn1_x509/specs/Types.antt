-- The types of the crates below, and their variants, for clauses and proofs of crates above.
pub use Rattle.picky_asn1_x509_parts.specs.declared.attribute.Attribute.{Attribute}
pub use Rattle.picky_asn1_x509_parts.specs.declared.attribute.AttributeValues.{AttributeValues}
pub use Rattle.picky_asn1_x509_parts.specs.declared.attribute.AttributeValues.TheVariants as attribute_values
pub use Rattle.picky_asn1_x509_parts.specs.declared.extension_value.ExtensionValue.{ExtensionValue}
pub use Rattle.picky_asn1_x509_parts.specs.declared.extension_value.ExtensionValue.TheVariants as extension_value
pub use Rattle.picky_asn1_x509_parts.specs.declared.extension_view.ExtensionView.{ExtensionView}
pub use Rattle.picky_asn1_x509_parts.specs.declared.extension_view.ExtensionView.TheVariants as extension_view
pub use Rattle.x509_der.specs.Types.{Deviation}
pub use Rattle.x509_der.specs.Types.deviation
pub use Rattle.x509_der.specs.Types.{Place}
pub use Rattle.x509_der.specs.Types.{ReadError}
pub use Rattle.x509_der.specs.Types.read_error
pub use Rattle.x509_der.specs.Types.{Refused}
pub use Rattle.x509_der.specs.Types.{WriteError}
pub use Rattle.x509_der.specs.Types.write_error
pub use Rattle.x509_der.specs.Types.{SliceError}
pub use Rattle.x509_der.specs.Types.slice_error
pub use Rattle.x509_der.specs.Types.{TooLong}
pub use Rattle.x509_keys.specs.Types.{AlgorithmIdentifierParameters}
pub use Rattle.x509_keys.specs.Types.algorithm_identifier_parameters
pub use Rattle.x509_keys.specs.Types.{HashAlgorithm}
pub use Rattle.x509_keys.specs.Types.hash_algorithm
pub use Rattle.x509_keys.specs.Types.{ShaVariant}
pub use Rattle.x509_keys.specs.Types.sha_variant
pub use Rattle.x509_names.specs.Types.{Validity}
pub use Rattle.x509_names.specs.Types.{Version}
pub use Rattle.x509_names.specs.Types.version
pub use Rattle.x509_keys.specs.declared.public_key.PublicKey.{PublicKey}
pub use Rattle.x509_keys.specs.declared.public_key.PublicKey.TheVariants as public_key
pub use Rattle.x509_names.specs.declared.general_name.GeneralName.{GeneralName}
pub use Rattle.x509_names.specs.declared.general_name.GeneralName.TheVariants as general_name
pub use Rattle.x509_names.specs.Types.{Time}
pub use Rattle.x509_names.specs.Types.time
pub use Rattle.x509_names.specs.Types.{DirectoryString}
pub use Rattle.x509_names.specs.Types.directory_string
