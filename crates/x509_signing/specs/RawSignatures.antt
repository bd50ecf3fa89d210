-- Signatures of ECDSA as their two numbers, one behind the other: as PKCS #11 (3.1, 6.3.1) and Web Cryptography (ECDSA, sign) give them.
use Rattle.std.specs.Prelude.{◌≡◌, ℕ, ◌<◌, ◌≤◌, ◌^◌, ◌/◌, ◌%◌, List, ◌++◌, length, take, drop}
use Rattle.x509_der.specs.Element.{element}
use Rattle.x509_der.specs.Integer.{unsigned_value, natural_content}
use Rattle.x509_signing.specs.declared.raw_signature.NotConverted.{NotConverted}
use Rattle.x509_signing.specs.declared.raw_signature.NotConverted.TheVariants as error

-- Ecdsa-Sig-Value ::= SEQUENCE { r INTEGER, s INTEGER } (RFC 3279, 2.2.3; RFC 5480, appendix A), by the contents of the INTEGERs
abbrev pub ecdsa_value : (r s : List ℕ) → List ℕ
ecdsa_value r s = element 48 (element 2 r ++ element 2 s)

-- two numbers of as many bytes, at least one
abbrev pub AreTwo : List ℕ → Type 0
AreTwo raw = (0 < length raw) × (length raw % 2 ≡ 0)

-- r, whose digits in base 256 the first half is, the highest first
abbrev pub raw_r : List ℕ → ℕ
raw_r raw = unsigned_value (take (length raw / 2) raw)

-- s, whose digits the second half is
abbrev pub raw_s : List ℕ → ℕ
raw_s raw = unsigned_value (drop (length raw / 2) raw)

-- both as an Ecdsa-Sig-Value in DER (X.690, 8.3)
abbrev pub ecdsa_signature_of : List ℕ → List ℕ
ecdsa_signature_of raw = ecdsa_value (natural_content (raw_r raw)) (natural_content (raw_s raw))

-- why there is none
abbrev pub WhyNotConverted : List ℕ → NotConverted → Type 0
WhyNotConverted raw error.BadLength = AreTwo raw → ⊥
WhyNotConverted raw error.TooLong = 2 ^ 64 ≤ length (ecdsa_signature_of raw)
WhyNotConverted raw error.OutOfMemory = Unit {0}
