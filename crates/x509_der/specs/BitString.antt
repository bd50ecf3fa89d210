-- Bit strings: lists of bits, in bytes from the top bit on (X.690, 8.6 and 11.2.1).
use Rattle.std.specs.Prelude.{◌≡◌, ℕ, zero, suc, ◌+◌, ◌-◌, ◌*◌, ◌%◌, ◌^◌, ◌<◌, ◌≤◌, ◌≢◌, Bool, false, cond, ◌==◌, List, [], ◌∷◌, ◌++◌, length, take, drop, replicate}
use Rattle.std.specs.Int.{bit_at}
use Rattle.x509_der_parts.specs.Shape.{Shape}
use Rattle.x509_der_parts.specs.PrimitiveContent.{plain}

-- whether a number has the bit that weighs 2 ^ i
abbrev pub has_bit : ℕ → ℕ → Bool
has_bit n i = bit_at n i == 1

-- the low k bits of a number, the highest first
abbrev pub bits_in : ℕ → ℕ → List Bool
bits_in zero n = []
bits_in (suc k) n = has_bit n k ∷ bits_in k n

-- the bits of bytes, those of each from the top bit on (X.690, 8.6.2.1)
unfoldable pub bits_of : List ℕ → List Bool
bits_of [] = []
bits_of (b ∷ r) = bits_in 8 b ++ bits_of r

-- the number of bits, the highest first
abbrev pub number_in : List Bool → ℕ
number_in [] = 0
number_in (b ∷ r) = cond b 1 0 * 2 ^ length r + number_in r

-- bits in bytes, eight in each from the top bit on
unfoldable pub packed : List Bool → List ℕ
packed (a ∷ b ∷ c ∷ d ∷ e ∷ f ∷ g ∷ h ∷ r) = number_in (a ∷ b ∷ c ∷ d ∷ e ∷ f ∷ g ∷ h ∷ []) ∷ packed r
packed _ = []

-- how many bits of the last byte are unused behind n bits: 0 to 7 (X.690, 8.6.2.2)
abbrev pub unused_bits : ℕ → ℕ
unused_bits n = (8 - n % 8) % 8

-- the bits in bytes from the top bit on, and then zero bits (X.690, 8.6.2.1 and 11.2.1)
abbrev pub payload : List Bool → List ℕ
payload v = packed (v ++ replicate (unused_bits (length v)) false)

-- the number of unused bits, and then the bytes (X.690, 8.6.2)
abbrev pub bit_content : List Bool → List ℕ
bit_content v = unused_bits (length v) ∷ payload v

abbrev pub IsBits : List Bool → List ℕ → Type 0
IsBits v p = p ≡ bit_content v

-- a BIT STRING's content
abbrev pub bit_strings : Shape (List Bool)
bit_strings = plain IsBits bit_content (λ v. Unit {0}) ⊥

-- the first n bits of v, with zero bits behind where v is shorter
abbrev pub resized : ℕ → List Bool → List Bool
resized n v = take n v ++ replicate (n - length v) false

-- the bits of bytes, but for the unused ones at the end
abbrev pub used : List ℕ → ℕ → List Bool
used bytes unused = take (8 * length bytes - unused) (bits_of bytes)

-- the unused bits are fewer than a byte's, none where there are no bytes, and zero
pub record IsPadded (bytes : List ℕ) (unused : ℕ) : Type 0 where
  pub few : unused < 8
  pub within : unused ≤ 8 * length bytes
  pub zeros : drop (8 * length bytes - unused) (bits_of bytes) ≡ replicate unused false

-- m is n but for the bit that weighs 2 ^ k, which is b
pub record IsWithBit (n k : ℕ) (b : Bool) (m : ℕ) : Type 0 where
  pub here : has_bit m k ≡ b
  pub others : (i : ℕ) → i < 8 → i ≢ k → has_bit m i ≡ has_bit n i

-- a content is a number of unused bits, and bytes that end with them
pub record IsParted (content : List ℕ) (unused : ℕ) (bytes : List ℕ) : Type 0 where
  pub content_is : content ≡ unused ∷ bytes
  pub padded : IsPadded bytes unused
  pub bits : IsBits (used bytes unused) content
