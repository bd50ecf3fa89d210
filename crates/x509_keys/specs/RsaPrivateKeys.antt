-- RSA private keys (RFC 8017, A.1.2).
use Rattle.std.specs.Prelude.{ℕ, List}
use Rattle.x509_keys.specs.declared.rsa_private_key.RsaPrivateKey.{RsaPrivateKey}
use Rattle.x509_der.specs.Shape.{Shape}
use Rattle.x509_der.specs.Tagged.{tagged}
use Rattle.x509_der.specs.Join.{join}
use Rattle.x509_der.specs.Structure.{structure}
use Rattle.x509_keys.specs.RsaPublicKeys.{number}

-- the content of an INTEGER
abbrev pub Number : Type 0
Number = List ℕ

-- the last four of the fields
abbrev pub LastFields : Type 0
LastFields = Number × (Number × (Number × Number))

abbrev pub last_parts : {A : Type 0} → RsaPrivateKey A → LastFields
last_parts v = (v.prime_2, (v.exponent_1, (v.exponent_2, v.coefficient)))

-- the nine fields as they stand in the SEQUENCE
abbrev pub PrivateFields : Type 0
PrivateFields = Number × (Number × (Number × (Number × (Number × LastFields))))

abbrev pub private_parts : {A : Type 0} → RsaPrivateKey A → PrivateFields
private_parts v = (v.version, (v.modulus, (v.public_exponent, (v.private_exponent, (v.prime_1, last_parts v)))))

-- an INTEGER, and what stands behind it
abbrev pub number_and : {V : Type 0} → Shape V → Shape (Number × V)
number_and rest = join (λ j. j.0) (λ j. j.1) number rest

-- prime2, exponent1, exponent2, coefficient, each an INTEGER
abbrev pub last_inner : Shape LastFields
last_inner = number_and (number_and (number_and number))

-- version, modulus, publicExponent, privateExponent, prime1, and these four, each an INTEGER
abbrev pub private_inner : Shape PrivateFields
private_inner = number_and (number_and (number_and (number_and (number_and last_inner))))

-- RSAPrivateKey ::= SEQUENCE { the nine, and no more } (RFC 8017, A.1.2): any version is read
abbrev pub private_base : Shape PrivateFields
private_base = tagged 48 private_inner

abbrev pub rsa_private_key : {A : Type 0} → Shape (RsaPrivateKey A)
rsa_private_key = structure private_parts private_base
