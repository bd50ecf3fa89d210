-- The UTF-16 units that an iterator gives, and their bytes.
use Rattle.std.proofs.Common.{◌≡◌, ℕ, ◌<◌, ◌^◌, List, [], ◌∷◌, ◌++◌, Some, None, flat_map, refl, sym, ap, ◌∙◌, arith, append_assoc, append-nil, inl, inr}
use Rattle.std.specs.Prelude.{IsTrue}
use Rattle.std.specs.Int.{w16, to_be_bytes}
use Rattle.std.specs.Char.Escape.{encode_utf16}
use Rattle.std.specs.Str.{chars, IsUtf8}
use Rattle.std.specs.Str.Iter.{encode_utf16_pending, encode_utf16_rest, encode_utf16_steps}
use Rattle.std.specs.declared.str.EncodeUtf16.{EncodeUtf16}
use Rattle.std.proofs.lemmas.Bool.Decides.{nat_tests}
use Rattle.std.proofs.lemmas.List.{nil_from_length}
use Rattle.std.proofs.lemmas.Str.{IsUtf8-past_char, chars_past_char, chars-nil}
use Rattle.x509_prim.specs.CharSets.{are_pairs}
use Rattle.x509_prim.specs.Utf16.{unit_bytes}

-- the units that are left
abbrev pub units_left : EncodeUtf16 → List ℕ
units_left s = encode_utf16_pending s ++ flat_map encode_utf16 (chars (encode_utf16_rest s))

pub unit_step : (s t : EncodeUtf16) (x : ℕ) → IsUtf8 (encode_utf16_rest s) → encode_utf16_steps s (Some x) t → IsUtf8 (encode_utf16_rest t) × (units_left s ≡ x ∷ units_left t)
unit_step s t x utf8 (inl h) = (rw h.2 utf8, rw (h.0, h.1, h.2) refl)
unit_step s t x utf8 (inr h) =
    let (none, (c, parts, coded)) = h in
    (IsUtf8-past_char _ _ c utf8 parts, rw (none, chars_past_char _ _ c utf8 parts, coded) refl)

pub units_end : (s t : EncodeUtf16) → encode_utf16_steps s None t → units_left s ≡ []
units_end s t h = rw (h.0, nil_from_length _ h.1, chars-nil) refl

big_endian : (u : ℕ) → u < 2 ^ 16 → to_be_bytes w16 u ≡ unit_bytes u
big_endian u h = grind arith

-- the bytes of one unit more
pub bytes_step : (bytes all : List ℕ) (s t : EncodeUtf16) (x : ℕ) → x < 2 ^ 16 → units_left s ≡ x ∷ units_left t → bytes ++ flat_map unit_bytes (units_left s) ≡ all
    → (bytes ++ to_be_bytes w16 x) ++ flat_map unit_bytes (units_left t) ≡ all
bytes_step bytes all s t x fits left whole = rw (big_endian x fits, append_assoc) (ap (λ (us : List ℕ). bytes ++ flat_map unit_bytes us) (sym left) ∙ whole)

pub bytes_end : (bytes all : List ℕ) (s : EncodeUtf16) → units_left s ≡ [] → bytes ++ flat_map unit_bytes (units_left s) ≡ all → bytes ≡ all
bytes_end bytes all s none whole = sym (append-nil bytes) ∙ ap (λ (us : List ℕ). bytes ++ flat_map unit_bytes us) (sym none) ∙ whole

-- two bytes for each unit
pub unit_pairs : (us : List ℕ) → IsTrue (are_pairs (flat_map unit_bytes us))
unit_pairs [] = refl
unit_pairs (u ∷ us) = let e = unit_pairs us in grind (arith, nat_tests)
