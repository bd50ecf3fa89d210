-- Natural numbers as INTEGERs (X.690, 8.3).
use Rattle.std.proofs.Common.{◌≡◌, ℕ, zero, suc, ◌+◌, ◌*◌, ◌/◌, ◌%◌, ◌^◌, ◌<◌, ◌≤◌, true, false, List, [], ◌∷◌, ◌++◌, length, drop, get_or, ⊎_elim, refl, sym, ap, subst, ◌∙◌, arith, drop-cons}
use Rattle.std.specs.Prelude.{pos, nat_le, IsTrue, Option, Some, None, IfSome}
use Rattle.std.specs.Int.{w64, to_be_bytes, byte_at, bytes_high_first}
use Rattle.std.proofs.Math.Nat.{pow-suc}
use Rattle.std.proofs.lemmas.List.{drop_all, get_or-drop}
use Rattle.std.proofs.lemmas.Bool.{cases_lt}
use Rattle.std.proofs.lemmas.Bool.Decides.{nat_tests}
use Rattle.x509_der.specs.Integer.{AreBytes}
use Rattle.x509_der_parts.specs.Element.{value_from, base}
use Rattle.x509_der_parts.specs.facts.LengthDigits.{base_zero, base_more, base_head, value_base}
use Rattle.x509_der.specs.Integer.{unsigned_value, signed_value, sign_bit, pads, is_minimal, natural_content, unsigned_content}
use Rattle.x509_der.specs.facts.Integer.{signed_value-low, signed_value-zero}
use Rattle.x509_der.specs.facts.IntegerUnique.{minimal_once}

-- the digits of a number are bytes
bytes_end : (s : List ℕ) (d : ℕ) → AreBytes s → d < 256 → (k : ℕ) → get_or (s ++ d ∷ []) k 0 < 256
bytes_end [] d h l zero = l
bytes_end [] d h l (suc k) = omega arith
bytes_end (b ∷ s) d h l zero = h 0
bytes_end (b ∷ s) d h l (suc k) = bytes_end s d (λ i. h (suc i)) l k

base_bytes_within : (f n : ℕ) → n ≤ f → AreBytes (base n)
base_bytes_within f zero h = λ k. rw base_zero (omega arith)
base_bytes_within zero (suc n) h = absurd (omega arith)
base_bytes_within (suc f) (suc n) h = λ k. rw (base_more (suc n) (omega arith)) (bytes_end (base (suc n / 256)) (suc n % 256) (base_bytes_within f (suc n / 256) (omega arith)) (omega arith) k)

base_bytes : (n : ℕ) → AreBytes (base n)
base_bytes n = base_bytes_within n n (omega arith)

-- and their value is the number
pub value_unsigned : (a : ℕ) (s : List ℕ) → value_from a s ≡ a * 256 ^ length s + unsigned_value s
value_unsigned a [] = omega arith
value_unsigned a (d ∷ s) = rw (pow-suc 256 (length s)) (omega (arith, value_unsigned (a * 256 + d) s))

pub value_is_unsigned : (s : List ℕ) → value_from 0 s ≡ unsigned_value s
value_is_unsigned s = omega (arith, value_unsigned 0 s)

-- a zero byte in front
zero_front : (b : ℕ) → 128 ≤ b → pads 0 b ≡ false
zero_front b h = grind (arith, nat_tests)

some_front : (a b : ℕ) → 0 < a → a < 128 → pads a b ≡ false
some_front a b h k = grind (arith, nat_tests)

minimal_front : (b : ℕ) (r : List ℕ) → 0 < b → b < 128 → IsTrue (is_minimal (b ∷ r))
minimal_front b [] h k = refl
minimal_front b (c ∷ r) h k = rw (some_front b c h k) refl

high_test : (b : ℕ) → 128 ≤ b → nat_le 128 b ≡ true
high_test b h = grind (arith, nat_tests)

low_test : (b : ℕ) → b < 128 → nat_le 128 b ≡ false
low_test b h = grind (arith, nat_tests)

unsigned_minimal : (s : List ℕ) → (0 < length s → 0 < get_or s 0 0) → IsTrue (is_minimal (unsigned_content s))
unsigned_minimal [] h = refl
unsigned_minimal (b ∷ r) h =
    ⊎_elim
    (λ l. rw (low_test b l) (minimal_front b r (h (omega arith)) l))
    (λ l. rw (high_test b l, zero_front b l) refl)
    (cases_lt b 128)

first_byte : (b : ℕ) (s : List ℕ) → b < 256 → AreBytes s → (k : ℕ) → get_or (b ∷ s) k 0 < 256
first_byte b s l h zero = l
first_byte b s l h (suc k) = h k

unsigned_bytes : (s : List ℕ) → AreBytes s → AreBytes (unsigned_content s)
unsigned_bytes [] h = λ k. bytes_end [] 0 h (omega arith) k
unsigned_bytes (b ∷ r) h =
    ⊎_elim
    (λ l. rw (low_test b l) h)
    (λ l. rw (high_test b l) (first_byte 0 (b ∷ r) (omega arith) h))
    (cases_lt b 128)

unsigned_number : (s : List ℕ) → signed_value (unsigned_content s) ≡ pos (unsigned_value s)
unsigned_number [] = refl
unsigned_number (b ∷ r) =
    ⊎_elim
    (λ l. rw (low_test b l) (signed_value-low (b ∷ r) (low_test b l)))
    (λ l. rw (high_test b l) (signed_value-zero (b ∷ r)))
    (cases_lt b 128)

-- the content is minimal, of bytes, and the number's
digit_first : (n : ℕ) → 0 < length (base n) → 0 < get_or (base n) 0 0
digit_first zero h = absurd (omega (arith, h, ap length base_zero))
digit_first (suc n) h = base_head (suc n) (omega arith)

pub natural_minimal : (n : ℕ) → IsTrue (is_minimal (natural_content n))
unfolding base
natural_minimal n = unsigned_minimal (base n) (digit_first n)

pub natural_bytes : (n : ℕ) → AreBytes (natural_content n)
unfolding base
natural_bytes n = unsigned_bytes (base n) (base_bytes n)

pub natural_value : (n : ℕ) → signed_value (natural_content n) ≡ pos n
unfolding base
natural_value n = unsigned_number (base n) ∙ ap pos (sym (value_is_unsigned (base n)) ∙ value_base n)

-- and no other one is
pub natural_once : (n : ℕ) (c : List ℕ) → AreBytes c → IsTrue (is_minimal c) → signed_value c ≡ pos n → c ≡ natural_content n
natural_once n c h m e = minimal_once c (natural_content n) h (natural_bytes n) m (natural_minimal n) (e ∙ sym (natural_value n))

-- reading the digits one by one
value_grows : (a : ℕ) (s : List ℕ) → a ≤ value_from a s
value_grows a [] = omega arith
value_grows a (d ∷ s) = omega (arith, value_grows (a * 256 + d) s)

-- a digit more passes 64 bits
pub value_passes : (s : List ℕ) (k a : ℕ) → k < length s → value_from a (drop k s) ≡ value_from 0 s → 2 ^ 56 ≤ a → 2 ^ 64 ≤ unsigned_value s
value_passes s k a l e h =
    let d = drop-cons s k 0 l in
    let f : value_from (a * 256 + get_or s k 0) (drop (suc k) s) ≡ value_from 0 s = ap (value_from a) (sym d) ∙ e in
    omega (arith, h, f, value_is_unsigned s, value_grows (a * 256 + get_or s k 0) (drop (suc k) s))

pub value_ends : (s : List ℕ) (k a : ℕ) → length s ≤ k → value_from a (drop k s) ≡ value_from 0 s → a ≡ unsigned_value s
value_ends s k a l e = ap (value_from a) (sym (drop_all k s l)) ∙ e ∙ value_is_unsigned s

-- a number that is read back
pub natural_read : (s : List ℕ) → AreBytes s → IsTrue (is_minimal s) → sign_bit s ≡ false → s ≡ natural_content (unsigned_value s)
natural_read s h m e = natural_once (unsigned_value s) s h m (signed_value-low s e)

pub bytes_behind : (n : ℕ) (s : List ℕ) → AreBytes s → AreBytes (drop n s)
bytes_behind n s h = λ k. rw (get_or-drop n s k 0) (h (n + k))

pub read_some : (s : List ℕ) (o : Option ℕ) → AreBytes s → IsTrue (is_minimal s) → sign_bit s ≡ false → IfSome o (λ n. n ≡ unsigned_value s) → IfSome o (λ n. s ≡ natural_content n)
read_some s None h m e f = tt
read_some s (Some n) h m e f = natural_read s h m e ∙ ap natural_content (sym f)

-- the eight bytes of a number
byte_small : (i n : ℕ) → byte_at i n < 256
byte_small zero n = omega arith
byte_small (suc i) n = omega arith

high_bytes : (k n : ℕ) → AreBytes (bytes_high_first k n)
high_bytes zero n = λ i. omega arith
high_bytes (suc k) n = first_byte (byte_at k n) (bytes_high_first k n) (byte_small k n) (high_bytes k n)

pub padded_bytes : (x : List ℕ) (n : ℕ) → x ≡ to_be_bytes w64 n → AreBytes (0 ∷ get_or x 0 0 ∷ get_or x 1 0 ∷ get_or x 2 0 ∷ get_or x 3 0 ∷ get_or x 4 0 ∷ get_or x 5 0 ∷ get_or x 6 0 ∷ get_or x 7 0 ∷ [])
padded_bytes x n e =
    let P : List ℕ → Type 0 = λ x. AreBytes (0 ∷ get_or x 0 0 ∷ get_or x 1 0 ∷ get_or x 2 0 ∷ get_or x 3 0 ∷ get_or x 4 0 ∷ get_or x 5 0 ∷ get_or x 6 0 ∷ get_or x 7 0 ∷ []) in
    subst P (sym e) (first_byte 0 (to_be_bytes w64 n) (omega arith) (high_bytes 8 n))
