-- What is told of the numbers of an RSA private key (RFC 8017, A.1.2).
use Rattle.std.specs.Prelude.{◌≡◌, ℕ, List}
use Rattle.x509_keys.specs.declared.rsa_private_key.RsaPrivateKey.{RsaPrivateKey}
use Rattle.x509_fields.specs.declared.span.Span.{Span}
use Rattle.x509_values.specs.Elements.{Finds, span_of}
use Rattle.x509_values.specs.Rests.{Rest}
use Rattle.x509_values.specs.declared.elements.Element.{Element}
use Rattle.x509_flat_values.specs.Covered.{CoversAll, no_span}
use Rattle.x509_flat_values.specs.declared.private_keys.RsaPrivatePlaces.{RsaPrivatePlaces}

-- the contents of its nine INTEGERs, which are in two's complement
pub record NumbersTold {A : Type 0} (v : RsaPrivateKey A) (string : List ℕ) (at : RsaPrivatePlaces) : Type 0 where
  pub version : CoversAll string at.version v.version
  pub modulus : CoversAll string at.modulus v.modulus
  pub public_exponent : CoversAll string at.public_exponent v.public_exponent
  pub private_exponent : CoversAll string at.private_exponent v.private_exponent
  pub prime_1 : CoversAll string at.prime_1 v.prime_1
  pub prime_2 : CoversAll string at.prime_2 v.prime_2
  pub exponent_1 : CoversAll string at.exponent_1 v.exponent_1
  pub exponent_2 : CoversAll string at.exponent_2 v.exponent_2
  pub coefficient : CoversAll string at.coefficient v.coefficient

abbrev pub no_numbers : RsaPrivatePlaces
no_numbers = record { version = no_span; modulus = no_span; public_exponent = no_span; private_exponent = no_span; prime_1 = no_span; prime_2 = no_span; exponent_1 = no_span; exponent_2 = no_span; coefficient = no_span }

-- the walk goes past the next element, and the span is that of what stands in it
pub record TakesOne (old new : Rest) (span : Span) : Type 0 where
  pub element : Element
  pub found : Finds old new element
  pub is : span ≡ span_of element.inside
