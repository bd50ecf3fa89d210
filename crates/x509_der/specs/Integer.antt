-- INTEGERs of any size, in two's complement (X.690, 8.3).
use Rattle.std.specs.Prelude.{ℕ, ◌+◌, ◌*◌, ◌/◌, ◌%◌, ◌^◌, ℤ, pos, ◌-ℤ◌, Bool, true, false, not, nat_lt, nat_le, ◌==◌, if◌then◌else◌, IsTrue, List, [], ◌∷◌, length}
use Rattle.std.proofs.Common.{ℕ, List, [], ◌∷◌}
use Rattle.x509_der_parts.specs.Shape.{Shape}
use Rattle.x509_der_parts.specs.PrimitiveContent.{itself}
pub use Rattle.x509_der_parts.specs.Element.{AreBytes}
use Rattle.x509_der_parts.specs.Element.{base256}
use Rattle.x509_der.specs.declared.integer.Magnitude.{Magnitude}
use Rattle.x509_der.specs.declared.integer.Magnitude.TheVariants as magnitudes

-- the number whose digits in base 256 the bytes are, the highest first
abbrev pub unsigned_value : List ℕ → ℕ
unsigned_value [] = 0
unsigned_value (b ∷ r) = b * 256 ^ length r + unsigned_value r

-- the number that the bytes are in two's complement: what the bits but the first weigh, less what the first bit weighs (X.690, 8.3.3)
abbrev pub signed_value : List ℕ → ℤ
signed_value [] = pos 0
signed_value (b ∷ r) = pos (b % 128 * 256 ^ length r + unsigned_value r) -ℤ pos (b / 128 * (128 * 256 ^ length r))

-- the first bit is set, as it is in negative numbers
abbrev pub sign_bit : List ℕ → Bool
sign_bit [] = false
sign_bit (b ∷ r) = nat_le 128 b

-- the number is below 2^64
abbrev pub is_within : List ℕ → Bool
is_within c = nat_lt (unsigned_value c) 18446744073709551616

-- how large a number is that isn't negative: itself, where it is one byte
abbrev pub unsigned_magnitude : List ℕ → Magnitude
unsigned_magnitude [] = magnitudes.Small
unsigned_magnitude (a ∷ []) = magnitudes.Byte a
unsigned_magnitude (a ∷ b ∷ r) = if is_within (a ∷ b ∷ r) then magnitudes.Small else magnitudes.Large

-- how large the number is
abbrev pub magnitude : List ℕ → Magnitude
magnitude c = if sign_bit c then magnitudes.Negative else unsigned_magnitude c

-- the first byte says nothing, since its bits are all as the next byte's first bit is
abbrev pub pads : ℕ → ℕ → Bool
pads a b = if nat_lt b 128 then a == 0 else a == 255

-- one byte or more, and where there are more, the first nine bits aren't all equal (X.690, 8.3.1 and 8.3.2)
abbrev pub is_minimal : List ℕ → Bool
is_minimal [] = false
is_minimal (a ∷ []) = true
is_minimal (a ∷ b ∷ r) = not (pads a b)

-- the bytes without a first zero where more follow
abbrev pub without_zero : List ℕ → List ℕ
without_zero [] = []
without_zero (a ∷ []) = a ∷ []
without_zero (a ∷ b ∷ r) = if a == 0 then b ∷ r else a ∷ b ∷ r

abbrev pub IsMinimal : List ℕ → Type 0
IsMinimal v = IsTrue (is_minimal v)

-- an INTEGER's content: bytes that are minimal
abbrev pub integers : Shape (List ℕ)
integers = itself IsMinimal

-- digits in base 256 as a content: a zero byte in front where the first bit is set, since that bit is the sign (8.3.3), and where there is no digit (8.3.1)
abbrev pub unsigned_content : List ℕ → List ℕ
unsigned_content [] = 0 ∷ []
unsigned_content (b ∷ r) = if nat_le 128 b then 0 ∷ b ∷ r else b ∷ r

-- the content of the INTEGER that a natural number is
abbrev pub natural_content : ℕ → List ℕ
natural_content n = unsigned_content (base256 n n [])
