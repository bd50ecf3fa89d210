-- Object identifiers: their arcs, and how these are encoded (X.690, 8.19) and printed.
use Rattle.std.specs.Prelude.{◌≡◌, ℕ, ◌+◌, ◌*◌, ◌-◌, List, [], ◌∷◌, ◌++◌, Option, Some, None, Bool, true, false, ◌==◌, ◌&&◌, if◌then◌else◌, nat_lt, ◌≢◌, nat_eq, zero, suc, ◌/◌, ◌%◌, ◌<◌, ◌≤◌, ◌^◌, length, slice_index, EachIndex, map}
use Rattle.std.specs.List.{flat_map, join_with_byte}
use Rattle.std.specs.Fmt.{decimal}
use Rattle.std.specs.Cmp.Lexicographic.{pointwise}
use Rattle.x509_der_parts.specs.Shape.{Shape}
use Rattle.x509_der_parts.specs.PrimitiveContent.{plain}
-- for the proofs of literal texts
unfoldable pub use Rattle.std.specs.Fmt.{digits}

abbrev pub put_front : ℕ → Option (List ℕ) → Option (List ℕ)
put_front n None = None
put_front n (Some ns) = Some (n ∷ ns)

-- acc is what the digits so far of a number that has begun spell, or 0
unfoldable pub numbers_from : ℕ → Bool → List ℕ → Option (List ℕ)
numbers_from acc true [] = Some []
numbers_from acc false [] = None
numbers_from acc start (b ∷ bs) =
    if nat_lt b 128 then (if nat_lt (acc * 128 + b) 18446744073709551616 then put_front (acc * 128 + b) (numbers_from 0 true bs) else None)
    else (if (start && (b == 128)) then None else (if nat_lt b 256 then numbers_from (acc * 128 + (b - 128)) false bs else None))

-- ---- arcs
abbrev pub parse_numbers : List ℕ → Option (List ℕ)
parse_numbers c = numbers_from 0 true c

-- ---- arcs and numbers
abbrev pub first_of : ℕ → ℕ
first_of n = if nat_lt n 40 then 0 else (if nat_lt n 80 then 1 else 2)

-- the first two arcs are one number
abbrev pub arcs_in : List ℕ → List ℕ
arcs_in [] = []
arcs_in (n ∷ ns) = first_of n ∷ (n - 40 * first_of n) ∷ ns

-- the numbers, or none
abbrev pub if_some_numbers : Option (List ℕ) → List ℕ
if_some_numbers None = []
if_some_numbers (Some ns) = ns

-- the numbers that bytes spell, and none where they spell none
abbrev pub numbers_in : List ℕ → List ℕ
numbers_in bytes = if_some_numbers (parse_numbers bytes)

-- the arcs that a content spells
abbrev pub arcs_spelled : List ℕ → List ℕ
arcs_spelled content = arcs_in (numbers_in content)

-- bytes that spell numbers
pub record AreNumbers (bytes : List ℕ) : Type 0 where
  pub numbers : List ℕ
  pub parsed : parse_numbers bytes ≡ Some numbers

-- and one at least
pub record BeginsNumber (bytes : List ℕ) : Type 0 where
  pub first : ℕ
  pub others : List ℕ
  pub parsed : parse_numbers bytes ≡ Some (first ∷ others)

-- a number in front, if there is one
abbrev pub if_some_front : Option ℕ → List ℕ → List ℕ
if_some_front None ns = ns
if_some_front (Some n) ns = n ∷ ns

-- two arcs or more: the first is 0, 1 or 2, the second below 40 under 0 and 1 (X.660, 7.6), and the number that spells these two, and each arc, is of 64 bits
pub record IsLawful (arcs : List ℕ) : Type 0 where
  pub len : 2 ≤ length arcs
  pub first : slice_index arcs 0 < 3
  pub second : slice_index arcs 0 < 2 → slice_index arcs 1 < 40
  pub both : 40 * slice_index arcs 0 + slice_index arcs 1 < 2 ^ 64
  pub each : EachIndex arcs (λ k. slice_index arcs k < 2 ^ 64)

-- whether arcs are the same
abbrev pub is_arcs : List ℕ → List ℕ → Bool
is_arcs x y = pointwise nat_eq x y

-- the arcs begin with front, and more follow
pub record IsUnder (front arcs : List ℕ) : Type 0 where
  pub more : List ℕ
  pub arcs_are : arcs ≡ front ++ more
  pub some : more ≢ []

-- the same as a test
abbrev pub is_strictly_under : List ℕ → List ℕ → Bool
is_strictly_under [] [] = false
is_strictly_under [] (b ∷ arcs) = true
is_strictly_under (a ∷ front) [] = false
is_strictly_under (a ∷ front) (b ∷ arcs) = nat_eq a b && is_strictly_under front arcs

-- the digits of n in base 128, the highest first, each with the top bit; fuel is at least n
unfoldable pub high : ℕ → ℕ → List ℕ
high zero n = []
high (suc fuel) n = if n == 0 then [] else high fuel (n / 128) ++ (128 + n % 128) ∷ []

abbrev pub high_digits : ℕ → List ℕ
high_digits n = high n n

-- n in base 128, the highest digit first, with the top bit on each digit but the last (X.690, 8.19.2)
unfoldable pub septets : ℕ → List ℕ
septets n = high_digits (n / 128) ++ (n % 128) ∷ []

-- the numbers that spell arcs: 40 a + b for the first two, and then each (X.690, 8.19.3 and 8.19.4)
abbrev pub spelled_numbers : List ℕ → List ℕ
spelled_numbers [] = []
spelled_numbers (a ∷ []) = []
spelled_numbers (a ∷ b ∷ r) = (40 * a + b) ∷ r

abbrev pub oid_content : List ℕ → List ℕ
oid_content v = flat_map septets (spelled_numbers v)

abbrev pub IsOid : List ℕ → List ℕ → Type 0
IsOid v p = IsLawful v × (p ≡ oid_content v)

-- an object identifier's content
abbrev pub oids : Shape (List ℕ)
oids = plain IsOid oid_content IsLawful ⊥

-- the arcs in decimal, joined by points
abbrev pub dotted : List ℕ → List ℕ
dotted arcs = join_with_byte 46 (map decimal arcs)
