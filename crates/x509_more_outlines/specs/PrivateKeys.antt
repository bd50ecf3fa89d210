-- Private keys of any algorithm (RFC 5958, 2; before it RFC 5208, 5).
use Rattle.std.proofs.Common.{◌≡◌, ℕ, List, Option}
use Rattle.x509_der.specs.Element.{element, header}
use Rattle.x509_der.specs.Fields.{Stands}
use Rattle.x509_der.specs.Join.{join}
use Rattle.x509_der.specs.Optional.{optional}
use Rattle.x509_der.specs.PrimitiveContent.{octets}
use Rattle.x509_der.specs.Shape.{Shape}
use Rattle.x509_der.specs.SmallInteger.{small_integers}
use Rattle.x509_der.specs.Structure.{structure}
use Rattle.x509_der.specs.Tagged.{tagged}
use Rattle.x509_der.specs.Tally.{Tally}
use Rattle.x509_outline_parts.specs.Algorithms.{algorithm}
use Rattle.x509_outline_parts.specs.AttributeValues.{attributes_field}
use Rattle.x509_outline_parts.specs.declared.algorithm_outline.AlgorithmOutline.{AlgorithmOutline}
use Rattle.x509_outline_parts.specs.declared.attribute_values_outline.AttributeValuesOutline.{AttributeValuesOutline}
use Rattle.x509_more_outlines.specs.PublicBits.{public_bits}
use Rattle.x509_more_outlines.specs.declared.private_key_outline.PrivateKeyOutline.{PrivateKeyOutline}
use Rattle.x509_more_outlines.specs.declared.public_bits_outline.PublicBitsOutline.{PublicBitsOutline}

-- the octets of the key, and behind them the attributes and the public key, where these are there
abbrev pub EndFields : Type 0 → Type 0
EndFields A = List ℕ × (Option (List (AttributeValuesOutline A)) × Option (PublicBitsOutline A))

-- the fields as they stand in the SEQUENCE
abbrev pub PrivateKeyFields : Type 0 → Type 0
PrivateKeyFields A = ℕ × (AlgorithmOutline A × EndFields A)

abbrev pub end_parts : {A : Type 0} → PrivateKeyOutline A → EndFields A
end_parts v = (v.private_key, (v.attributes, v.public_key))

abbrev pub private_key_parts : {A : Type 0} → PrivateKeyOutline A → PrivateKeyFields A
private_key_parts v = (v.version, (v.private_key_algorithm, end_parts v))

-- privateKey OCTET STRING, attributes [0] Attributes OPTIONAL, publicKey [1] PublicKey OPTIONAL
abbrev pub private_key_end : {A : Type 0} → Shape (EndFields A)
private_key_end =
    join (λ j. j.0) (λ j. j.1) (tagged 4 octets)
    (join (λ j. j.0) (λ j. j.1) (optional attributes_field) (optional public_bits))

-- version INTEGER (0..255), privateKeyAlgorithm AlgorithmIdentifier, and these
abbrev pub private_key_inner : {A : Type 0} → Shape (PrivateKeyFields A)
private_key_inner =
    join (λ j. j.0) (λ j. j.1) (tagged 2 small_integers)
    (join (λ j. j.0) (λ j. j.1) algorithm private_key_end)

-- OneAsymmetricKey ::= SEQUENCE { version Version, privateKeyAlgorithm PrivateKeyAlgorithmIdentifier, privateKey PrivateKey,
-- attributes [0] Attributes OPTIONAL, publicKey [1] PublicKey OPTIONAL } (RFC 5958, 2), where tags are IMPLICIT;
-- PrivateKey ::= OCTET STRING, Attributes ::= SET OF Attribute. The version is any from 0 to 255, also where there is a
-- public key, and the order of the attributes is kept
abbrev pub private_key_base : {A : Type 0} → Shape (PrivateKeyFields A)
private_key_base = tagged 48 private_key_inner

abbrev pub private_key : {A : Type 0} → Shape (PrivateKeyOutline A)
private_key = structure private_key_parts private_key_base

-- each field, with its tag, behind those before it
pub record PrivateKeyAt {A : Type 0} (v : PrivateKeyOutline A) (string : List ℕ) (y : Tally) : Type 0 where
  pub content : List ℕ
  pub bytes : string ≡ element 48 content
  pub fields : Stands private_key_inner (private_key_parts v) (header content) content string y
