-- Parameters of RSASSA-PSS, and of its mask generation function (RFC 4055, 2.2 and 3.1).
use Rattle.std.specs.Prelude.{◌≡◌, false, ℕ, ◌<◌, ◌^◌, nat_lt, if◌then◌else◌, List, [], ◌∷◌, Option, Some, None}
use Rattle.x509_der.specs.Types.{Deviation}
use Rattle.x509_der.specs.Types.deviation
use Rattle.x509_der.specs.declared.integer.Magnitude.{Magnitude}
use Rattle.x509_der.specs.declared.integer.Magnitude.TheVariants as magnitudes
use Rattle.x509_der.specs.Shape.{Shape}
use Rattle.x509_der.specs.Tagged.{tagged}
use Rattle.x509_der.specs.Join.{join}
use Rattle.x509_der.specs.Structure.{structure}
use Rattle.x509_der.specs.ObjectIdentifier.{oids}
use Rattle.x509_der.specs.Integer.{sign_bit, unsigned_value, integers, natural_content}
use Rattle.x509_der.specs.View.{Meaning, seen}
use Rattle.x509_der.specs.Partly.{unmarked}
use Rattle.x509_keys_parts.specs.HashAlgorithms.{hash_algorithm, hash_len}
use Rattle.x509_keys_parts.specs.declared.hash_algorithm.HashAlgorithm.{HashAlgorithm}
use Rattle.x509_keys_parts.specs.declared.rsassa_pss.MaskGenAlgorithm.{MaskGenAlgorithm}
use Rattle.x509_keys_parts.specs.declared.rsassa_pss.RsassaPssParams.{RsassaPssParams}

abbrev pub MaskGenFields : Type 0
MaskGenFields = List ℕ × HashAlgorithm

abbrev pub mask_gen_parts : {A : Type 0} → MaskGenAlgorithm A → MaskGenFields
mask_gen_parts v = (v.mask_gen_algorithm, v.hash_algorithm)

-- SEQUENCE { algorithm OBJECT IDENTIFIER, parameters HashAlgorithm } (RFC 4055, 2.2)
abbrev pub mask_gen_base : Shape MaskGenFields
mask_gen_base = tagged 48 (join (λ j. j.0) (λ j. j.1) (tagged 6 oids) hash_algorithm)

abbrev pub mask_gen : {A : Type 0} → Shape (MaskGenAlgorithm A)
mask_gen = structure mask_gen_parts mask_gen_base

-- MGF1 with a hash function: id-mgf1, pkcs-1 8 (RFC 8017, A.2.1)
abbrev pub mgf1 : {A : Type 0} → HashAlgorithm → MaskGenAlgorithm A
mgf1 h = record { mask_gen_algorithm = 1 ∷ 2 ∷ 840 ∷ 113549 ∷ 1 ∷ 1 ∷ 8 ∷ []; hash_algorithm = h }

-- the hash function, the mask generation function, and the content of the salt's length
abbrev pub PssFields : Type 0 → Type 0
PssFields A = HashAlgorithm × (MaskGenAlgorithm A × List ℕ)

-- the content of an INTEGER that isn't negative; another means nothing
abbrev pub natural_of : List ℕ → Option (List ℕ)
natural_of c = if sign_bit c then None else Some c

abbrev pub salt_base : Shape (List ℕ)
salt_base = tagged 2 integers

abbrev pub salt_meaning : Meaning (List ℕ) (List ℕ)
salt_meaning = record { of = λ c. unmarked (natural_of c); back = λ c. c; valid = λ c. (sign_bit c ≡ false) × salt_base.valid c; readable = salt_base.readable }

-- INTEGER (0..MAX)
abbrev pub salt_lengths : Shape (List ℕ)
salt_lengths = seen salt_meaning salt_base

abbrev pub pss_inner : {A : Type 0} → Shape (PssFields A)
pss_inner = join (λ j. j.0) (λ j. j.1) (tagged 160 hash_algorithm) (join (λ j. j.0) (λ j. j.1) (tagged 161 mask_gen) (tagged 162 salt_lengths))

-- SEQUENCE { hashAlgorithm [0] HashAlgorithm, maskGenAlgorithm [1] MaskGenAlgorithm, saltLength [2] INTEGER (0..MAX) }
-- (RFC 4055, 3.1): all three stand there
abbrev pub pss_base : {A : Type 0} → Shape (PssFields A)
pss_base = tagged 48 pss_inner

-- the salt's length, and the deviation of one above 2^64 - 1, which stands for 2^64 - 1; a negative number is none
abbrev pub salt_of : List ℕ → Option (ℕ × List Deviation)
salt_of c =
    if sign_bit c then None
    else if nat_lt (unsigned_value c) 18446744073709551616 then Some (unsigned_value c, [])
    else Some (18446744073709551615, deviation.SaltTooLarge ∷ [])

-- the same, by how large the number is
abbrev pub salt_kinds : Magnitude → Option (List Deviation)
salt_kinds magnitudes.Negative = None
salt_kinds (magnitudes.Byte n) = Some []
salt_kinds magnitudes.Small = Some []
salt_kinds magnitudes.Large = Some (deviation.SaltTooLarge ∷ [])

abbrev pub with_salt : {A : Type 0} → HashAlgorithm → MaskGenAlgorithm A → Option (ℕ × List Deviation) → Option (RsassaPssParams A × List Deviation)
with_salt h m None = None
with_salt h m (Some s) = Some (record { hash_algorithm = h; mask_gen_algorithm = m; salt_length = s.0 }, s.1)

abbrev pub pss_means : {A : Type 0} → PssFields A → Option (RsassaPssParams A × List Deviation)
pss_means b = with_salt b.0 b.1.0 (salt_of b.1.1)

abbrev pub pss_fields : {A : Type 0} → RsassaPssParams A → PssFields A
pss_fields v = (v.hash_algorithm, (v.mask_gen_algorithm, natural_content v.salt_length))

-- the salt's length is in range
abbrev pub IsPss : {A : Type 0} → RsassaPssParams A → Type 0
IsPss v = mask_gen.valid v.mask_gen_algorithm × (v.salt_length < 2 ^ 64)

abbrev pub pss_meaning : {A : Type 0} → Meaning (PssFields A) (RsassaPssParams A)
pss_meaning = record { of = pss_means; back = pss_fields; valid = IsPss; readable = λ v. mask_gen.readable v.mask_gen_algorithm }

abbrev pub rsassa_pss : {A : Type 0} → Shape (RsassaPssParams A)
rsassa_pss = seen pss_meaning pss_base

-- MGF1 with the same hash function, and a salt as long as a hash (RFC 4055, 3.1)
abbrev pub pss_with : {A : Type 0} → HashAlgorithm → RsassaPssParams A
pss_with h = record { hash_algorithm = h; mask_gen_algorithm = mgf1 h; salt_length = hash_len h }
