-- Where the fields of the outline of a private key stand (RFC 5958, 2).
use Rattle.std.specs.Prelude.{ℕ, List}
use Rattle.x509_der.specs.PrimitiveContent.{octets}
use Rattle.x509_der.specs.SmallInteger.{small_integers}
use Rattle.x509_der.specs.Tagged.{tagged}
use Rattle.x509_der.specs.Tally.{Tally}
use Rattle.x509_outline_parts.specs.Algorithms.{algorithm}
use Rattle.x509_outline_parts.specs.AttributeValues.{attributes_field}
use Rattle.x509_more_outlines.specs.PublicBits.{public_bits}
use Rattle.x509_more_outlines.specs.declared.private_key_outline.PrivateKeyOutline.{PrivateKeyOutline}
use Rattle.x509_fields.specs.Keys.{key_spans}
use Rattle.x509_fields.specs.Spans.{FieldIn, OptionalIn, Fill, all_of}
use Rattle.x509_fields.specs.declared.private_key.PrivateKeyInfoFields.{PrivateKeyInfoFields}

-- the version, the algorithm, the key in its OCTET STRING, the attributes, which the port skips, and the public key in either form
pub record PrivateKeyIn {A : Type 0} (v : PrivateKeyOutline A) (at : PrivateKeyInfoFields) (string : List ℕ) (whole : Tally) : Type 0 where
  pub version : FieldIn (tagged 2 small_integers) v.version at.version string whole
  pub private_key_algorithm : FieldIn algorithm v.private_key_algorithm at.private_key_algorithm string whole
  pub private_key : FieldIn (tagged 4 octets) v.private_key at.private_key string whole
  pub attributes : OptionalIn attributes_field v.attributes at.skipped string whole
  pub public_key : OptionalIn public_bits v.public_key at.public_key string whole
  pub fill : Fill string (all_of string) (key_spans at)
