-- A number has one minimal content.
use Rattle.std.proofs.Common.{◌≡◌, ℕ, zero, suc, ◌+◌, ◌-◌, ◌*◌, ◌/◌, ◌%◌, ◌^◌, ◌<◌, ◌≤◌, Bool, true, false, List, [], ◌∷◌, length, get_or, ◌⊎◌, inl, inr, ⊎_elim, refl, sym, ap, ◌∙◌, arith}
use Rattle.std.specs.Bool.{Decides}
use Rattle.std.specs.Prelude.{ℤ, pos, negsuc, ◌+ℤ◌, ◌-ℤ◌, ◌<ℤ◌, nat_le, IsTrue, if◌then◌else◌}
use Rattle.std.proofs.Math.Nat.{pow-suc}
use Rattle.std.proofs.lemmas.Int.{ints}
use Rattle.std.proofs.lemmas.Nat.{mul-le}
use Rattle.std.proofs.lemmas.Bool.{cases_lt}
use Rattle.std.proofs.lemmas.Bool.Decides.{nat_tests}
use Rattle.x509_der.specs.Integer.{AreBytes}
use Rattle.x509_der.specs.Integer.{unsigned_value, signed_value, sign_bit, pads, is_minimal}
use Rattle.x509_der.specs.facts.Integer.{bytes_rest, unsigned_below, signed_value-low, signed_value-pads}

-- digits of one length
digit_lower : (a b p u v : ℕ) → u < p → a < b → a * p + u ≡ b * p + v → ⊥
digit_lower a b p u v h l e = let m = mul-le (a + 1) p b p (omega (arith, l)) (omega arith) in omega (arith, m, e, h)

digit_once : (a b p u v : ℕ) → u < p → v < p → a * p + u ≡ b * p + v → a ≡ b
digit_once a b p u v h k e =
    ⊎_elim
    (λ l. absurd (digit_lower a b p u v h l e))
    (λ l. ⊎_elim (λ m. absurd (digit_lower b a p v u k m (sym e))) (λ m. omega (arith, l, m)) (cases_lt b a))
    (cases_lt a b)

unsigned_once : (s t : List ℕ) → length s ≡ length t → AreBytes s → AreBytes t → unsigned_value s ≡ unsigned_value t → s ≡ t
unsigned_once [] [] n h k e = refl
unsigned_once [] (b ∷ t) n h k e = absurd (omega (arith, n))
unsigned_once (a ∷ s) [] n h k e = absurd (omega (arith, n))
unsigned_once (a ∷ s) (b ∷ t) n h k e =
    let l : length s ≡ length t = omega (arith, n) in
    let p : 256 ^ length t ≡ 256 ^ length s = ap (λ x. 256 ^ x) (sym l) in
    let f : a * 256 ^ length s + unsigned_value s ≡ b * 256 ^ length s + unsigned_value t = e ∙ ap (λ x. b * x + unsigned_value t) p in
    let u = unsigned_below s (bytes_rest a s h) in
    let v : unsigned_value t < 256 ^ length s = rw p at (unsigned_below t (bytes_rest b t k)) in
    let q = digit_once a b (256 ^ length s) (unsigned_value s) (unsigned_value t) u v f in
    let g : unsigned_value s ≡ unsigned_value t = omega (arith, (rw q at f)) in
    ap (λ x. x ∷ s) q ∙ ap (λ x. b ∷ x) (unsigned_once s t l (bytes_rest a s h) (bytes_rest b t k) g)

-- contents of one length
high_first : (b p u : ℕ) → 128 ≤ b → b < 256 → (pos (b % 128 * p + u) -ℤ pos (b / 128 * (128 * p))) +ℤ pos (p * 256) ≡ pos (b * p + u)
high_first b p u l h =
    let d : b / 128 ≡ 1 = omega arith in
    let e : b ≡ b % 128 + 128 = omega arith in
    let m : b * p ≡ (b % 128 + 128) * p = ap (λ x. x * p) e in
    rw (d, m) (omega (arith, ints))

signed_value-high : (s : List ℕ) → AreBytes s → sign_bit s ≡ true → signed_value s +ℤ pos (256 ^ length s) ≡ pos (unsigned_value s)
signed_value-high [] h e = cc
signed_value-high (b ∷ r) h e = rw (pow-suc 256 (length r)) (high_first b (256 ^ length r) (unsigned_value r) (grind (arith, nat_tests)) (h 0))

same_high : (x : ℤ) (m a b : ℕ) → x +ℤ pos m ≡ pos a → x +ℤ pos m ≡ pos b → a ≡ b
same_high x m a b e f = omega (arith, ints, e, f)

mixed : (x : ℤ) (m a b : ℕ) → x ≡ pos a → x +ℤ pos m ≡ pos b → b < m → ⊥
mixed x m a b e f l = omega (arith, ints, e, f, l)

both_low : (x : ℤ) (a b : ℕ) → x ≡ pos a → x ≡ pos b → a ≡ b
both_low x a b e f = omega (arith, ints, e, f)

sign_cases : (b : Bool) → (b ≡ true) ⊎ (b ≡ false)
sign_cases true = inl refl
sign_cases false = inr refl

signed_once : (s t : List ℕ) → length s ≡ length t → AreBytes s → AreBytes t → signed_value s ≡ signed_value t → s ≡ t
signed_once s t n h k e =
    let p : 256 ^ length t ≡ 256 ^ length s = ap (λ x. 256 ^ x) (sym n) in
    let high_t : sign_bit t ≡ true → signed_value s +ℤ pos (256 ^ length s) ≡ pos (unsigned_value t) = λ f. ap (λ x. x +ℤ pos (256 ^ length s)) e ∙ ap (λ x. signed_value t +ℤ pos x) (sym p) ∙ signed_value-high t k f in
    let low_t : sign_bit t ≡ false → signed_value s ≡ pos (unsigned_value t) = λ f. e ∙ signed_value-low t f in
    let below_t : unsigned_value t < 256 ^ length s = rw p at (unsigned_below t k) in
    unsigned_once s t n h k
    (⊎_elim
    (λ f. ⊎_elim
    (λ g. same_high (signed_value s) (256 ^ length s) (unsigned_value s) (unsigned_value t) (signed_value-high s h f) (high_t g))
    (λ g. absurd (mixed (signed_value s) (256 ^ length s) (unsigned_value t) (unsigned_value s) (low_t g) (signed_value-high s h f) (unsigned_below s h)))
    (sign_cases (sign_bit t)))
    (λ f. ⊎_elim
    (λ g. absurd (mixed (signed_value s) (256 ^ length s) (unsigned_value s) (unsigned_value t) (signed_value-low s f) (high_t g) below_t))
    (λ g. both_low (signed_value s) (unsigned_value s) (unsigned_value t) (signed_value-low s f) (low_t g))
    (sign_cases (sign_bit t)))
    (sign_cases (sign_bit s)))

-- bytes in front that say nothing
sign_byte : List ℕ → ℕ
sign_byte s = if sign_bit s then 255 else 0

extended : ℕ → List ℕ → List ℕ
extended zero s = s
extended (suc k) s = sign_byte (extended k s) ∷ extended k s

sign_pads : (b : ℕ) (r : List ℕ) → pads (sign_byte (b ∷ r)) b ≡ true
unfolding sign_byte
sign_pads b r = grind (arith, nat_tests)

sign_small : (s : List ℕ) → sign_byte s < 256
unfolding sign_byte
sign_small s = ⊎_elim (λ e. rw e (omega arith)) (λ e. rw e (omega arith)) (sign_cases (sign_bit s))

padded_value : (s : List ℕ) → AreBytes s → 0 < length s → signed_value (sign_byte s ∷ s) ≡ signed_value s
padded_value [] h l = absurd (omega (arith, l))
padded_value (b ∷ r) h l = signed_value-pads (sign_byte (b ∷ r)) b r (h 0) (sign_pads b r)

padded_more : (s : List ℕ) → 0 < length s → is_minimal (sign_byte s ∷ s) ≡ false
padded_more [] l = absurd (omega (arith, l))
padded_more (b ∷ r) l = rw (sign_pads b r) refl

bytes_cons : (b : ℕ) (r : List ℕ) → b < 256 → AreBytes r → (k : ℕ) → get_or (b ∷ r) k 0 < 256
bytes_cons b r l h zero = l
bytes_cons b r l h (suc k) = h k

length-extended : (k : ℕ) (s : List ℕ) → length (extended k s) ≡ k + length s
unfolding extended
length-extended zero s = omega arith
length-extended (suc k) s = omega (arith, length-extended k s)

bytes-extended : (k : ℕ) (s : List ℕ) → AreBytes s → AreBytes (extended k s)
unfolding extended
bytes-extended zero s h = h
bytes-extended (suc k) s h = bytes_cons (sign_byte (extended k s)) (extended k s) (sign_small (extended k s)) (bytes-extended k s h)

signed_value-extended : (k : ℕ) (s : List ℕ) → AreBytes s → 0 < length s → signed_value (extended k s) ≡ signed_value s
unfolding extended
signed_value-extended zero s h l = refl
signed_value-extended (suc k) s h l = padded_value (extended k s) (bytes-extended k s h) (omega (arith, l, length-extended k s)) ∙ signed_value-extended k s h l

minimal_some : (s : List ℕ) → IsTrue (is_minimal s) → 0 < length s
minimal_some [] m = cc
minimal_some (b ∷ r) m = omega arith

longer : (k : ℕ) (s t : List ℕ) → length t ≡ k + length s → AreBytes s → AreBytes t → IsTrue (is_minimal s) → IsTrue (is_minimal t) → signed_value s ≡ signed_value t → s ≡ t
unfolding extended
longer zero s t n h b m q e = signed_once s t (omega (arith, n)) h b e
longer (suc k) s t n h b m q e =
    let l = minimal_some s m in
    let x : extended (suc k) s ≡ t = signed_once (extended (suc k) s) t (length-extended (suc k) s ∙ sym n) (bytes-extended (suc k) s h) b (signed_value-extended (suc k) s h l ∙ e) in
    let z : false ≡ true = sym (padded_more (extended k s) (omega (arith, l, length-extended k s))) ∙ ap is_minimal x ∙ q in
    cc

-- two minimal contents of one number are one
pub minimal_once : (s t : List ℕ) → AreBytes s → AreBytes t → IsTrue (is_minimal s) → IsTrue (is_minimal t) → signed_value s ≡ signed_value t → s ≡ t
minimal_once s t h k m q e =
    ⊎_elim
    (λ l. longer (length t - length s) s t (omega (arith, l)) h k m q e)
    (λ l. sym (longer (length s - length t) t s (omega (arith, l)) k h q m (sym e)))
    (cases_lt (length s) (length t))

-- where the first bit is set, the number is negative
pub sign_negative : (s : List ℕ) → AreBytes s → sign_bit s ≡ true → (n : ℕ) → signed_value s ≡ pos n → ⊥
sign_negative s h e n p = mixed (signed_value s) (256 ^ length s) n (unsigned_value s) p (signed_value-high s h e) (unsigned_below s h)

-- and nowhere else
not_natural : (z : ℤ) → ((n : ℕ) → z ≡ pos n → ⊥) → z <ℤ pos 0
not_natural (pos n) h = absurd (h n refl)
not_natural (negsuc n) h = omega (arith, ints)

sign_below : (s : List ℕ) → AreBytes s → Decides (sign_bit s) (signed_value s <ℤ pos 0)
sign_below s h = (
  λ e. not_natural (signed_value s) (sign_negative s h e),
  λ l. ⊎_elim (λ e. e) (λ e. absurd (omega (arith, ints, l, signed_value-low s e))) (sign_cases (sign_bit s)),
)

pub first_below : (s : List ℕ) → 1 ≤ length s → AreBytes s → Decides (nat_le 128 (get_or s 0 0)) (signed_value s <ℤ pos 0)
first_below [] n h = absurd (omega (arith, n))
first_below (b ∷ r) n h = sign_below (b ∷ r) h
