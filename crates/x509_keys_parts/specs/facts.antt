-- Lemmas about the definitions.
pub mod AesAuthEncParams
pub mod AesParameters
pub mod AlgorithmContents
pub mod AlgorithmIdentifier
pub mod AlgorithmLaws
pub mod AlgorithmParameters
pub mod DigestInfoFacts
pub mod EcParameters
pub mod HashAlgorithmFacts
pub use Rattle.x509_der.specs.facts.Named
pub mod NamedErrors
pub mod NaturalContents
pub mod RawAlgorithmFacts
pub mod RsassaPssFacts
pub mod ShaVariantFacts
