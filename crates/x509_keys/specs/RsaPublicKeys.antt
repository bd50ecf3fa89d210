-- RSA public keys (RFC 8017, A.1.1).
use Rattle.std.specs.Prelude.{ℕ, List}
use Rattle.x509_keys.specs.declared.rsa_public_key.RsaPublicKey.{RsaPublicKey}
use Rattle.x509_der.specs.Shape.{Shape}
use Rattle.x509_der.specs.Tagged.{tagged}
use Rattle.x509_der.specs.Join.{join}
use Rattle.x509_der.specs.Integer.{integers}
use Rattle.x509_der.specs.Structure.{structure}

-- the fields as they stand in the SEQUENCE: the contents of two INTEGERs
abbrev pub PublicFields : Type 0
PublicFields = List ℕ × List ℕ

abbrev pub public_parts : {A : Type 0} → RsaPublicKey A → PublicFields
public_parts v = (v.modulus, v.public_exponent)

-- INTEGER
abbrev pub number : Shape (List ℕ)
number = tagged 2 integers

abbrev pub public_inner : Shape PublicFields
public_inner = join (λ j. j.0) (λ j. j.1) number number

-- RSAPublicKey ::= SEQUENCE { modulus INTEGER, publicExponent INTEGER } (RFC 8017, A.1.1)
abbrev pub public_base : Shape PublicFields
public_base = tagged 48 public_inner

abbrev pub rsa_public_key : {A : Type 0} → Shape (RsaPublicKey A)
rsa_public_key = structure public_parts public_base
