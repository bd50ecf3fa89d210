-- The types of the crate below, and their variants, for clauses and proofs of crates above.
pub use Rattle.x509_keys_parts.specs.declared.aes.AesMode.{AesMode}
pub use Rattle.x509_keys_parts.specs.declared.aes.AesMode.TheVariants as aes_mode
pub use Rattle.x509_keys_parts.specs.declared.aes.AesParameters.{AesParameters}
pub use Rattle.x509_keys_parts.specs.declared.aes.AesParameters.TheVariants as aes_parameters
pub use Rattle.x509_keys_parts.specs.declared.algorithm_parameters.AlgorithmIdentifierParameters.{AlgorithmIdentifierParameters}
pub use Rattle.x509_keys_parts.specs.declared.algorithm_parameters.AlgorithmIdentifierParameters.TheVariants as algorithm_identifier_parameters
pub use Rattle.x509_keys_parts.specs.declared.digest_info.DigestInfo.{DigestInfo}
pub use Rattle.x509_keys_parts.specs.declared.ec_parameters.EcParameters.{EcParameters}
pub use Rattle.x509_keys_parts.specs.declared.ec_parameters.EcParameters.TheVariants as ec_parameters
pub use Rattle.x509_keys_parts.specs.declared.errors.AlgorithmError.{AlgorithmError}
pub use Rattle.x509_keys_parts.specs.declared.errors.AlgorithmError.TheVariants as algorithm_error
pub use Rattle.x509_keys_parts.specs.declared.errors.UnsupportedAlgorithmError.{UnsupportedAlgorithmError}
pub use Rattle.x509_keys_parts.specs.declared.hash_algorithm.HashAlgorithm.{HashAlgorithm}
pub use Rattle.x509_keys_parts.specs.declared.hash_algorithm.HashAlgorithm.TheVariants as hash_algorithm
pub use Rattle.x509_keys_parts.specs.declared.rsassa_pss.MaskGenAlgorithm.{MaskGenAlgorithm}
pub use Rattle.x509_keys_parts.specs.declared.rsassa_pss.RsassaPssParams.{RsassaPssParams}
pub use Rattle.x509_keys_parts.specs.declared.sha_variant.ShaVariant.{ShaVariant}
pub use Rattle.x509_keys_parts.specs.declared.sha_variant.ShaVariant.TheVariants as sha_variant
