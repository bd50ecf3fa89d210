-- Hexadecimal in pieces.
use Rattle.std.proofs.Common.{◌≡◌, ℕ, ◌/◌, ◌%◌, Bool, true, ◌&&◌, ltb, slice_index, List, [], ◌∷◌, ◌++◌, refl, ap}
use Rattle.std.specs.Str.{IsAscii, IsUtf8}
use Rattle.std.proofs.lemmas.Str.{IsUtf8-from_ascii}
use Rattle.std.proofs.lemmas.Str.Ascii.{IsAscii-nil, IsAscii-cons}
use Rattle.std.proofs.lemmas.Bool.{and_parts}
use borrow.Author.Tests.{ltb-true}
use Rattle.hex.proofs.HexLemmas.{IsAscii-encode_with}
use Rattle.hex.specs.Hex.{encode_with, encode_lower, lower_digits}

encode_with-append : (t xs ys : List ℕ) → encode_with t (xs ++ ys) ≡ encode_with t xs ++ encode_with t ys
unfolding encode_with
encode_with-append t [] ys = refl
encode_with-append t (x ∷ xs) ys = ap (λ (l : List ℕ). slice_index t (x / 16) ∷ slice_index t (x % 16) ∷ l) (encode_with-append t xs ys)

pub encode_lower-append : (xs ys : List ℕ) → encode_lower (xs ++ ys) ≡ encode_lower xs ++ encode_lower ys
encode_lower-append xs ys = encode_with-append lower_digits xs ys

pub encode_lower-nil : encode_lower [] ≡ []
unfolding encode_with
encode_lower-nil = refl

-- a test of a literal text, which computes
abbrev all_ascii : List ℕ → Bool
all_ascii [] = true
all_ascii (b ∷ bs) = ltb b 128 && all_ascii bs

ascii-from_test : (bs : List ℕ) → all_ascii bs ≡ true → IsAscii bs
ascii-from_test [] h = IsAscii-nil
ascii-from_test (b ∷ bs) h =
    let parts = and_parts (ltb b 128) (all_ascii bs) h in
    IsAscii-cons b bs (ltb-true b 128 parts.0) (ascii-from_test bs parts.1)

pub encode_lower-text : (xs : List ℕ) → IsUtf8 (encode_lower xs)
encode_lower-text xs = IsUtf8-from_ascii (encode_lower xs) (IsAscii-encode_with lower_digits xs (ascii-from_test lower_digits refl))
