-- What the extensions of a certificate hold.
use Rattle.std.specs.Prelude.{ℕ, List, Option, Some, None}
pub use Rattle.picky_asn1_x509_parts.specs.FirstExtensions.{has_identifier, first_of}
use Rattle.picky_asn1_x509_parts.specs.BasicConstraints.{Constraints}
use Rattle.picky_asn1_x509_parts.specs.Extensions.{ExtensionFields}
use Rattle.picky_asn1_x509_parts.specs.AuthorityKeyIdentifier.{KeyAuthority}
use Rattle.picky_asn1_x509_parts.specs.declared.extension_value.ExtensionValue.{ExtensionValue}
use Rattle.picky_asn1_x509_parts.specs.declared.extension_value.ExtensionValue.TheVariants as value

-- the octets of a subject key identifier (RFC 5280, 4.2.1.2)
abbrev pub subject_key_in : {A : Type 0} → ExtensionValue A → Option (List ℕ)
subject_key_in (value.SubjectKeyIdentifier octets) = Some octets
subject_key_in v = None

-- an authority key identifier (RFC 5280, 4.2.1.1)
abbrev pub authority_key_in : {A : Type 0} → ExtensionValue A → Option (KeyAuthority A)
authority_key_in (value.AuthorityKeyIdentifier key) = Some key
authority_key_in v = None

-- basic constraints (RFC 5280, 4.2.1.9)
abbrev pub constraints_in : {A : Type 0} → ExtensionValue A → Option Constraints
constraints_in (value.BasicConstraints constraints) = Some constraints
constraints_in v = None

-- what the value of an extension holds, where there is one
abbrev pub held_by : {A V : Type 0} → (ExtensionValue A → Option V) → Option (ExtensionFields A) → Option V
held_by hold None = None
held_by hold (Some e) = hold e.extn_value
