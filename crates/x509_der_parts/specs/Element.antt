-- Elements: one tag byte, length digits, content (X.690, 8.1 and 10.1).
use Rattle.std.specs.Prelude.{◌≡◌, ◌<◌, Bool, true, not, ℕ, zero, suc, ◌+◌, ◌/◌, ◌*◌, ◌%◌, ◌==◌, nat_lt, if◌then◌else◌, List, [], ◌∷◌, ◌++◌, length, slice_index}
use Rattle.std.proofs.Common.{ℕ, List, []}

-- the digits of n in base 256, the highest first, in front of tail; fuel is at least n
abbrev pub base256 : ℕ → ℕ → List ℕ → List ℕ
base256 zero n tail = tail
base256 (suc fuel) n tail = if n == 0 then tail else base256 fuel (n / 256) (n % 256 ∷ tail)

-- the digits of n in base 256
unfoldable pub base : ℕ → List ℕ
base n = base256 n n []

-- the length digits for a content of n bytes: n itself below 128, else 128 and the number of digits, and then the digits, of which the first is not zero (X.690, 8.1.3.4, 8.1.3.5 and 10.1)
unfoldable pub digits : ℕ → List ℕ
digits n = if nat_lt n 128 then n ∷ [] else (128 + length (base256 n n [])) ∷ base256 n n []

-- tag, length digits, content (X.690, 8.1.1)
unfoldable pub element : ℕ → List ℕ → List ℕ
element t c = t ∷ (digits (length c) ++ c)

-- each number is a byte
abbrev pub AreBytes : List ℕ → Type 0
AreBytes s = (k : ℕ) → slice_index s k < 256

-- a tag is one byte, whose low five bits aren't all ones (8.1.2.4)
abbrev pub is_tag : ℕ → Bool
is_tag t = not (t % 32 == 31)

-- bit 6 of a tag: 1 where the content is constructed (8.1.2.5)
abbrev pub form_bit : ℕ → ℕ
form_bit t = t / 32 % 2

-- p is one element
pub record IsRaw (p : List ℕ) : Type 0 where
  pub tag : ℕ
  pub content : List ℕ
  pub fits : is_tag tag ≡ true
  pub byte : tag < 256
  pub bytes : p ≡ element tag content

-- how many bytes stand before an element's content
unfoldable pub header : List ℕ → ℕ
header c = length (digits (length c)) + 1

-- how long an element around n bytes is
abbrev pub element_size : ℕ → ℕ
element_size n = 1 + (length (digits n) + n)

-- the number that digits in base 256 spell behind a number
abbrev pub value_from : ℕ → List ℕ → ℕ
value_from n [] = n
value_from n (d ∷ ds) = value_from (n * 256 + d) ds
