-- The texts of attributes and values, by what they are.
use Rattle.std.proofs.Common.{◌≡◌, ℕ, ◌==◌, ◌%◌, ◌&&◌, Bool, true, false, List, ◌∷◌, length, chars, refl}
use Rattle.std.specs.Char.Utf16.{utf16_lossy_chars}
use Rattle.std.specs.Str.{is_utf8}
use Rattle.x509_der.specs.Element.{element}
use Rattle.x509_name_text.specs.Texts.{escaped, has_text, hex_text, units_of, value_text}

pub as_string : (shown : ℕ → Bool) (tag : ℕ) (content : List ℕ) → (has_text tag && is_utf8 content) ≡ true → value_text shown tag content ≡ escaped shown true (chars content)
unfolding value_text
as_string shown tag content is = rw is refl

pub as_units : (shown : ℕ → Bool) (tag : ℕ) (content : List ℕ) → (has_text tag && is_utf8 content) ≡ false → (tag == 30 && length content % 2 == 0) ≡ true → value_text shown tag content ≡ escaped shown true (utf16_lossy_chars (units_of content))
unfolding value_text
as_units shown tag content is units = rw (is, units) refl

pub as_octets : (shown : ℕ → Bool) (tag : ℕ) (content : List ℕ) → (has_text tag && is_utf8 content) ≡ false → (tag == 30 && length content % 2 == 0) ≡ false → value_text shown tag content ≡ 35 ∷ hex_text false (element tag content)
unfolding value_text
as_octets shown tag content is units = rw (is, units) refl
