-- What is told of a signature's algorithm (RFC 5280, 4.1.1.2).
use Rattle.std.specs.Prelude.{◌≡◌, ℕ, List}
use Rattle.x509_der.specs.ObjectIdentifier.{oid_content}
use Rattle.x509_keys.specs.AlgorithmIdentifier.{Algorithm}
use Rattle.x509_flat_values.specs.Covered.{CoversAll, no_span}
use Rattle.x509_flat_values.specs.Digests.{digest_number, digest_of}
use Rattle.x509_flat_values.specs.declared.signatures.SignaturePlace.{SignaturePlace}

-- where its identifier stands, and its digest
pub record SignatureTold {A : Type 0} (string : List ℕ) (v : Algorithm A) (at : SignaturePlace) : Type 0 where
  pub algorithm : CoversAll string at.algorithm (oid_content v.algorithm)
  pub digest : at.digest ≡ digest_number (digest_of v)

abbrev pub no_signature : SignaturePlace
no_signature = record { algorithm = no_span; digest = 0 }
