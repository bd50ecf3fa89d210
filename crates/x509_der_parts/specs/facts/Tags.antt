-- Tags of one byte (X.690, 8.1.2.4): of the context-specific class 160 and the number where the content is constructed, else 128 and the number; of the universal class the number where the content is primitive.
use Rattle.std.proofs.Common.{◌≡◌, ap, ℕ, ◌+◌, ◌<◌, ◌%◌, true, not, arith, lit<}
use Rattle.std.proofs.lemmas.Bool.{ne_eqb}
use Rattle.std.proofs.lemmas.Nat.{mod_below}
use Rattle.x509_der_parts.specs.Element.{is_tag, form_bit}

-- its low five bits are the number
low_bits : (base n : ℕ) → base % 32 ≡ 0 → n < 31 → (base + n) % 32 ≡ n
low_bits base n b h = omega (arith, b, h)

one_byte : (base n : ℕ) → base % 32 ≡ 0 → n < 31 → is_tag (base + n) ≡ true
one_byte base n b h = ap not (ne_eqb ((base + n) % 32) 31 (λ e. omega (arith, low_bits base n b h, e, h)))

pub constructed_tag : (n : ℕ) → is_tag (160 + n % 31) ≡ true
constructed_tag n = one_byte 160 (n % 31) (omega arith) (mod_below n 31 (lit< tt))

pub constructed_byte : (n : ℕ) → 160 + n % 31 < 256
constructed_byte n = omega (arith, mod_below n 31 (lit< tt))

pub constructed_form : (n : ℕ) → form_bit (160 + n % 31) ≡ 1
constructed_form n = let r = n % 31 in let h : r < 31 = mod_below n 31 (lit< tt) in omega (arith, h)

pub primitive_tag : (n : ℕ) → is_tag (128 + n % 31) ≡ true
primitive_tag n = one_byte 128 (n % 31) (omega arith) (mod_below n 31 (lit< tt))

pub primitive_byte : (n : ℕ) → 128 + n % 31 < 256
primitive_byte n = omega (arith, mod_below n 31 (lit< tt))

pub primitive_form : (n : ℕ) → form_bit (128 + n % 31) ≡ 0
primitive_form n = let r = n % 31 in let h : r < 31 = mod_below n 31 (lit< tt) in omega (arith, h)

pub universal_tag : (n : ℕ) → is_tag (n % 31) ≡ true
universal_tag n = let r = n % 31 in let h : r < 31 = mod_below n 31 (lit< tt) in ap not (ne_eqb (r % 32) 31 (λ e. omega (arith, h, e)))

pub universal_byte : (n : ℕ) → n % 31 < 256
universal_byte n = omega (arith, mod_below n 31 (lit< tt))

pub universal_form : (n : ℕ) → form_bit (n % 31) ≡ 0
universal_form n = let r = n % 31 in let h : r < 31 = mod_below n 31 (lit< tt) in omega (arith, h)
