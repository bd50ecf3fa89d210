-- Characters in UTF-16, one by one.
use Rattle.std.proofs.Common.{◌≡◌, ℕ, ◌&&◌, true, false, List, [], ◌∷◌, refl}
use Rattle.std.specs.Char.Utf16.{is_high_surrogate, is_low_surrogate, lone_unit_char, surrogate_pair_char, utf16_chars, utf16_lossy_chars}
use Rattle.std.specs.Option.{unwrap_or}

pub lossy_pair : (u v : ℕ) (us : List ℕ) → (is_high_surrogate u && is_low_surrogate v) ≡ true → utf16_lossy_chars (u ∷ v ∷ us) ≡ surrogate_pair_char u v ∷ utf16_lossy_chars us
unfolding utf16_chars
lossy_pair u v us are = rw are refl

pub lossy_unpaired : (u v : ℕ) (us : List ℕ) → (is_high_surrogate u && is_low_surrogate v) ≡ false → utf16_lossy_chars (u ∷ v ∷ us) ≡ unwrap_or (lone_unit_char u) 0xfffd ∷ utf16_lossy_chars (v ∷ us)
unfolding utf16_chars
lossy_unpaired u v us alone = rw alone refl

pub lossy_lone : (u : ℕ) → utf16_lossy_chars (u ∷ []) ≡ unwrap_or (lone_unit_char u) 0xfffd ∷ utf16_lossy_chars []
unfolding utf16_chars
lossy_lone u = refl
