-- Hash functions, the object identifiers that name them, and the algorithm identifiers of RSASSA-PSS (RFC 4055, 2.1).
use Rattle.std.specs.Prelude.{ℕ, List, [], ◌∷◌, Option, Some, None, codes}
use Rattle.x509_der.specs.Types.{Deviation}
use Rattle.x509_der.specs.Types.deviation
use Rattle.x509_der.specs.Shape.{Shape}
use Rattle.x509_der.specs.Tagged.{tagged}
use Rattle.x509_der.specs.Join.{join}
use Rattle.x509_der.specs.Optional.{optional}
use Rattle.x509_der.specs.PrimitiveContent.{nothing}
use Rattle.x509_der.specs.ObjectIdentifier.{oids}
use Rattle.x509_der.specs.View.{Meaning, seen}
use Rattle.x509_der.specs.Partly.{partly}
use Rattle.x509_der.specs.Named.{named}
use Rattle.x509_keys_parts.specs.declared.hash_algorithm.HashAlgorithm.{HashAlgorithm}
use Rattle.x509_keys_parts.specs.declared.hash_algorithm.HashAlgorithm.TheVariants as hash

-- joint-iso-itu-t(2) country(16) us(840) organization(1) gov(101) csor(3) nistAlgorithm(4) hashAlgs(2), and one more
-- (NIST, Computer Security Objects Register)
abbrev pub nist_hash : ℕ → List ℕ
nist_hash n = 2 ∷ 16 ∷ 840 ∷ 1 ∷ 101 ∷ 3 ∷ 4 ∷ 2 ∷ n ∷ []

-- the last arc of each (RFC 5754, 2, for SHA-2; RFC 9688, 2, for SHA-3)
abbrev pub hash_number : HashAlgorithm → ℕ
hash_number hash.SHA224 = 4
hash_number hash.SHA256 = 1
hash_number hash.SHA384 = 2
hash_number hash.SHA512 = 3
hash_number hash.SHA3_224 = 7
hash_number hash.SHA3_256 = 8
hash_number hash.SHA3_384 = 9
hash_number hash.SHA3_512 = 10

abbrev pub hash_arcs : HashAlgorithm → List ℕ
hash_arcs h = nist_hash (hash_number h)

-- how many bytes a hash has (FIPS 180-4, figure 1; FIPS 202, 6.1)
abbrev pub hash_len : HashAlgorithm → ℕ
hash_len hash.SHA224 = 28
hash_len hash.SHA256 = 32
hash_len hash.SHA384 = 48
hash_len hash.SHA512 = 64
hash_len hash.SHA3_224 = 28
hash_len hash.SHA3_256 = 32
hash_len hash.SHA3_384 = 48
hash_len hash.SHA3_512 = 64

-- how each is spelled
abbrev pub hash_function_name : HashAlgorithm → List ℕ
hash_function_name hash.SHA224 = codes "SHA224"
hash_function_name hash.SHA256 = codes "SHA256"
hash_function_name hash.SHA384 = codes "SHA384"
hash_function_name hash.SHA512 = codes "SHA512"
hash_function_name hash.SHA3_224 = codes "SHA3_224"
hash_function_name hash.SHA3_256 = codes "SHA3_256"
hash_function_name hash.SHA3_384 = codes "SHA3_384"
hash_function_name hash.SHA3_512 = codes "SHA3_512"

abbrev pub hashes : List HashAlgorithm
hashes = hash.SHA224 ∷ hash.SHA256 ∷ hash.SHA384 ∷ hash.SHA512 ∷ hash.SHA3_224 ∷ hash.SHA3_256 ∷ hash.SHA3_384 ∷ hash.SHA3_512 ∷ []

-- the hash function that arcs name, if any
abbrev pub hash_of : List ℕ → Option HashAlgorithm
hash_of arcs = named hash_arcs hashes arcs

-- OBJECT IDENTIFIER, one of those that name a hash function
abbrev pub hash_name_base : Shape (List ℕ)
hash_name_base = tagged 6 oids

abbrev pub hash_name_meaning : Meaning (List ℕ) HashAlgorithm
hash_name_meaning = partly hash_of hash_arcs hash_name_base

abbrev pub hash_name : Shape HashAlgorithm
hash_name = seen hash_name_meaning hash_name_base

abbrev pub HashFields : Type 0
HashFields = HashAlgorithm × Option (Unit {0})

-- NULL
abbrev pub null : Shape (Unit {0})
null = tagged 5 nothing

abbrev pub hash_inner : Shape HashFields
hash_inner = join (λ j. j.0) (λ j. j.1) hash_name (optional null)

-- SEQUENCE { algorithm OBJECT IDENTIFIER, parameters NULL OPTIONAL }
abbrev pub hash_base : Shape HashFields
hash_base = tagged 48 hash_inner

-- parameters that are absent
abbrev pub null_kinds : Option (Unit {0}) → List Deviation
null_kinds None = deviation.HashNullAbsent ∷ []
null_kinds (Some u) = []

abbrev pub hash_means : HashFields → Option (HashAlgorithm × List Deviation)
hash_means b = Some (b.0, null_kinds b.1)

-- NULL is written (RFC 4055, 2.1)
abbrev pub hash_fields : HashAlgorithm → HashFields
hash_fields h = (h, Some tt)

abbrev pub hash_meaning : Meaning HashFields HashAlgorithm
hash_meaning = record { of = hash_means; back = hash_fields; valid = λ h. Unit {0}; readable = λ h. Unit {0} }

abbrev pub hash_algorithm : Shape HashAlgorithm
hash_algorithm = seen hash_meaning hash_base
