-- Changing bit strings: one bit, the last bits, and how many there are.
use Rattle.std.proofs.Common.{◌≡◌, ℕ, zero, suc, ◌+◌, ◌-◌, ◌*◌, ◌/◌, ◌%◌, ◌^◌, ◌<◌, ◌≤◌, ◌≢◌, ◌==◌, ◌↔◌, Bool, false, List, [], ◌∷◌, ◌++◌, length, take, drop, set, get_or, refl, sym, ap, ◌∙◌, arith, append-nil, take_all}
use Rattle.std.specs.Prelude.{replicate, IsTrue}
use Rattle.std.specs.Int.{bit_at}
use Rattle.std.proofs.Math.Nat.{mod-eq_of_lt, mod-lt, div-add-mod}
use Rattle.std.proofs.Math.Pow.{pow-lt}
use Rattle.std.proofs.lemmas.Nat.Bits.{bit_at_cat_low, bit_at_cat_high, bit_at-zero}
use Rattle.std.proofs.lemmas.List.{set-append_left, length-replicate, get_or_past, replicate-append-replicate, drop_all}
use Rattle.std.proofs.lemmas.Bool.{eqb-true}
use Rattle.x509_der.specs.BitString.{has_bit, bits_in, bits_of, number_in, unused_bits, resized, used, IsPadded, IsWithBit}
use Rattle.x509_der.specs.facts.BitString.{bits_of-nil, bits_of-cons, length-bits_of, length-bits_in, bits_in-same, number_in-bits_in, bits_in-number_in, number_below, used_is, Pads, pads_from}

pub power_positive : (k : ℕ) → 0 < 2 ^ k
power_positive k = let h = number_below (replicate k false) in omega (arith, h, ap (λ n. 2 ^ n) (length-replicate k false))

pub mask_is : (u : ℕ) → u < 8 → 1 * 2 ^ u % 256 ≡ 2 ^ u
mask_is u h = let l : 2 ^ u < 2 ^ 8 = pow-lt h in ap (λ x. x % 256) (let q : 1 * 2 ^ u ≡ 2 ^ u = omega arith in q) ∙ mod-eq_of_lt l

-- reading a bit
get_byte : (b : ℕ) (r : List Bool) (j : ℕ) → j < 8 → get_or (bits_in 8 b ++ r) j false ≡ has_bit b (7 - j)
get_byte b r zero h = refl
get_byte b r (suc zero) h = refl
get_byte b r (suc (suc zero)) h = refl
get_byte b r (suc (suc (suc zero))) h = refl
get_byte b r (suc (suc (suc (suc zero)))) h = refl
get_byte b r (suc (suc (suc (suc (suc zero))))) h = refl
get_byte b r (suc (suc (suc (suc (suc (suc zero)))))) h = refl
get_byte b r (suc (suc (suc (suc (suc (suc (suc zero))))))) h = refl
get_byte b r (suc (suc (suc (suc (suc (suc (suc (suc j)))))))) h = absurd (omega (arith, h))

eight_more : (k j : ℕ) → 8 * suc k + j ≡ suc (suc (suc (suc (suc (suc (suc (suc (8 * k + j))))))))
eight_more k j = omega arith

get_bits_of : (s : List ℕ) (k j : ℕ) → k < length s → j < 8 → get_or (bits_of s) (8 * k + j) false ≡ has_bit (get_or s k 0) (7 - j)
get_bits_of [] k j l h = absurd (omega (arith, l))
get_bits_of (b ∷ r) zero j l h =
    ap (λ x. get_or x (8 * 0 + j) false) (bits_of-cons b r) ∙ ap (λ i. get_or (bits_in 8 b ++ bits_of r) i false) (let q : 8 * 0 + j ≡ j = omega arith in q) ∙ get_byte b (bits_of r) j h
get_bits_of (b ∷ r) (suc k) j l h =
    ap (λ x. get_or x (8 * suc k + j) false) (bits_of-cons b r) ∙ ap (λ i. get_or (bits_in 8 b ++ bits_of r) i false) (eight_more k j) ∙ get_bits_of r k j (omega (arith, l)) h

at_byte : (i : ℕ) → i ≡ 8 * (i / 8) + i % 8
at_byte i = omega arith

pub bit_here : (s : List ℕ) (i : ℕ) → i / 8 < length s → has_bit (get_or s (i / 8) 0) (7 - i % 8) ≡ get_or (bits_of s) i false
bit_here s i l = sym (ap (λ k. get_or (bits_of s) k false) (at_byte i) ∙ get_bits_of s (i / 8) (i % 8) l (omega arith))

pub bit_past : (s : List ℕ) (i : ℕ) → length s ≤ i / 8 → get_or (bits_of s) i false ≡ false
bit_past s i l = get_or_past (bits_of s) i false (omega (arith, length-bits_of s))

get_zeros : (k i : ℕ) → ◌≡◌ {A = Bool} (get_or (replicate k false) i false) false
get_zeros zero i = refl
get_zeros (suc k) zero = refl
get_zeros (suc k) (suc i) = get_zeros k i

get_padded : (v : List Bool) (k i : ℕ) → get_or (v ++ replicate k false) i false ≡ get_or v i false
get_padded [] k i = get_zeros k i
get_padded (b ∷ v) k zero = refl
get_padded (b ∷ v) k (suc i) = get_padded v k i

pub bit_used : (s : List ℕ) (u i : ℕ) → IsPadded s u → get_or (bits_of s) i false ≡ get_or (used s u) i false
bit_used s u i h = ap (λ x. get_or x i false) (used_is s u h) ∙ get_padded (used s u) u i

-- changing a bit
set_bits_in : (k n m j i : ℕ) (b : Bool) → j + i + 1 ≡ k → has_bit m i ≡ b → ((x : ℕ) → x < k → x ≢ i → has_bit m x ≡ has_bit n x) → bits_in k m ≡ set (bits_in k n) j b
set_bits_in zero n m j i b e h o = absurd (omega (arith, e))
set_bits_in (suc k) n m zero i b e h o =
    ap (λ x. x ∷ bits_in k m) (ap (has_bit m) (let q : k ≡ i = omega (arith, e) in q) ∙ h) ∙ ap (λ x. b ∷ x) (bits_in-same k m n (λ x l. o x (omega (arith, l)) (λ q. omega (arith, e, q, l))))
set_bits_in (suc k) n m (suc j) i b e h o =
    ap (λ x. x ∷ bits_in k m) (o k (omega arith) (λ q. omega (arith, e, q))) ∙ ap (λ x. has_bit n k ∷ x) (set_bits_in k n m j i b (omega (arith, e)) h (λ x l. o x (omega (arith, l))))

set_bits_of : (s : List ℕ) (k j c : ℕ) (b : Bool) → k < length s → j < 8 → bits_in 8 c ≡ set (bits_in 8 (get_or s k 0)) j b → bits_of (set s k c) ≡ set (bits_of s) (8 * k + j) b
set_bits_of [] k j c b l h e = absurd (omega (arith, l))
set_bits_of (x ∷ r) zero j c b l h e =
    bits_of-cons c r ∙ ap (λ y. y ++ bits_of r) e ∙ sym (set-append_left (bits_in 8 x) (bits_of r) j b h) ∙ ap (λ y. set y j b) (sym (bits_of-cons x r)) ∙ ap (λ i. set (bits_of (x ∷ r)) i b) (let q : j ≡ 8 * 0 + j = omega arith in q)
set_bits_of (x ∷ r) (suc k) j c b l h e =
    bits_of-cons x (set r k c) ∙ ap (λ y. bits_in 8 x ++ y) (set_bits_of r k j c b (omega (arith, l)) h e) ∙ ap (λ i. set (bits_in 8 x ++ bits_of r) i b) (sym (eight_more k j)) ∙ ap (λ y. set y (8 * suc k + j) b) (sym (bits_of-cons x r))

pub bit_put : (s : List ℕ) (i c : ℕ) (b : Bool) → i / 8 < length s → IsWithBit (get_or s (i / 8) 0) (7 - i % 8) b c → bits_of (set s (i / 8) c) ≡ set (bits_of s) i b
bit_put s i c b l w =
    set_bits_of s (i / 8) (i % 8) c b l (omega arith) (set_bits_in 8 (get_or s (i / 8) 0) c (i % 8) (7 - i % 8) b (omega arith) w.here w.others) ∙ ap (λ k. set (bits_of s) k b) (sym (at_byte i))

pub pads_set : (s t : List ℕ) (u i : ℕ) (b : Bool) → IsPadded s u → i < length (used s u) → bits_of t ≡ set (bits_of s) i b → Pads t u (set (used s u) i b)
pads_set s t u i b h l e = pads_from t u (set (used s u) i b) h.few (e ∙ ap (λ x. set x i b) (used_is s u h) ∙ set-append_left (used s u) (replicate u false) i b l)

-- the last bits
drop_bits_in : (j u k n : ℕ) → k ≡ j + u → drop j (bits_in k n) ≡ bits_in u n
drop_bits_in zero u k n e = ap (λ m. bits_in m n) (let q : k ≡ u = omega (arith, e) in q)
drop_bits_in (suc j) u zero n e = absurd (omega (arith, e))
drop_bits_in (suc j) u (suc k) n e = drop_bits_in j u k n (omega (arith, e))

last_place : (l u : ℕ) → 0 < l → u < 8 → 8 * suc l - u ≡ suc (suc (suc (suc (suc (suc (suc (suc (8 * l - u))))))))
last_place l u p h = omega arith

drop_last : (s : List ℕ) (n u : ℕ) → length s ≡ suc n → u < 8 → drop (8 * length s - u) (bits_of s) ≡ bits_in u (get_or s n 0)
drop_last [] n u e h = absurd (omega (arith, e))
drop_last (b ∷ []) zero u e h =
    ap (drop (8 * 1 - u)) (bits_of-cons b [] ∙ ap (λ x. bits_in 8 b ++ x) bits_of-nil ∙ append-nil (bits_in 8 b)) ∙ drop_bits_in (8 * 1 - u) u 8 b (omega arith)
drop_last (b ∷ []) (suc n) u e h = absurd (omega (arith, e))
drop_last (b ∷ c ∷ r) zero u e h = absurd (omega (arith, e))
drop_last (b ∷ c ∷ r) (suc n) u e h =
    ap (drop (8 * length (b ∷ c ∷ r) - u)) (bits_of-cons b (c ∷ r)) ∙ ap (λ k. drop k (bits_in 8 b ++ bits_of (c ∷ r))) (last_place (length (c ∷ r)) u (omega arith) h) ∙ drop_last (c ∷ r) n u (omega (arith, e)) h

number_zeros : (u : ℕ) → number_in (replicate u false) ≡ 0
number_zeros zero = refl
number_zeros (suc u) = omega (arith, number_zeros u)

bits_in-zero : (u : ℕ) → bits_in u 0 ≡ replicate u false
bits_in-zero zero = refl
bits_in-zero (suc u) = ap (λ x. (x == 1) ∷ bits_in u 0) (bit_at-zero u) ∙ ap (λ x. false ∷ x) (bits_in-zero u)

bits_back : (u n : ℕ) → bits_in u (n % 2 ^ u) ≡ bits_in u n
bits_back u n = ap (bits_in u) (sym (number_in-bits_in u n)) ∙ ap (λ k. bits_in k (number_in (bits_in u n))) (sym (length-bits_in u n)) ∙ bits_in-number_in (bits_in u n)

low_zeros : (u n : ℕ) → n % 2 ^ u ≡ 0 → bits_in u n ≡ replicate u false
low_zeros u n e = sym (bits_back u n) ∙ ap (bits_in u) e ∙ bits_in-zero u

zeros_low : (u n : ℕ) → bits_in u n ≡ replicate u false → n % 2 ^ u ≡ 0
zeros_low u n e = sym (number_in-bits_in u n) ∙ ap number_in e ∙ number_zeros u

pub last_padded : (s : List ℕ) (n u : ℕ) → length s ≡ suc n → u < 8 → get_or s n 0 % 2 ^ u ≡ 0 → IsPadded s u
last_padded s n u e h z = record { few = h; within = omega (arith, e, h); zeros = drop_last s n u e h ∙ low_zeros u (get_or s n 0) z }

pub padded_last : (s : List ℕ) (n u : ℕ) → length s ≡ suc n → IsPadded s u → get_or s n 0 % 2 ^ u ≡ 0
padded_last s n u e p = zeros_low u (get_or s n 0) (sym (drop_last s n u e p.few) ∙ p.zeros)

-- the test of the last byte says whether the unused bits are zero
pub last_tested : (s : List ℕ) (n u : ℕ) → length s ≡ suc n → u < 8 → IsTrue (get_or s n 0 % (1 * 2 ^ u % 256) == 0) ↔ IsPadded s u
last_tested s n u e h = (
  λ t. last_padded s n u e h (eqb-true _ _ (rw (mask_is u h) at t)),
  λ p. rw (mask_is u h, padded_last s n u e p) refl,
)

pub none_padded : (s : List ℕ) (u : ℕ) → length s ≡ 0 → IsTrue (u == 0) ↔ IsPadded s u
none_padded s u e = (
  λ t. let z : u ≡ 0 = eqb-true u 0 t in record {
    few = omega arith;
    within = omega arith;
    zeros = drop_all (8 * length s - u) (bits_of s) (omega (arith, length-bits_of s)) ∙ ap (λ k. replicate k false) (sym z);
  },
  λ p. rw (let z : u ≡ 0 = omega (arith, e, p.within) in z) refl,
)

-- clearing them
pub none_cleared : (s : List ℕ) (u : ℕ) → length s ≡ 0 → u ≤ 8 * length s → bits_of s ≡ take (8 * length s - u) (bits_of s) ++ replicate u false
none_cleared s u e h =
    let z : u ≡ 0 = omega arith in
    rw z (sym (append-nil (take (8 * length s - 0) (bits_of s)) ∙ take_all (8 * length s - 0) (bits_of s) (omega (arith, length-bits_of s))))

same_high : (n c u i : ℕ) → c + n % 2 ^ u ≡ n → u ≤ i → has_bit c i ≡ has_bit n i
same_high n c u i e l =
    let q = n / 2 ^ u in
    let p = power_positive u in
    let d = div-add-mod n (2 ^ u) in
    let x : c ≡ q * 2 ^ u + 0 = omega (arith, d, e) in
    let y : q * 2 ^ u + n % 2 ^ u ≡ n = omega (arith, d) in
    ap (λ k. k == 1) (ap (λ k. bit_at k i) x ∙ bit_at_cat_high q u 0 i p l ∙ sym (bit_at_cat_high q u (n % 2 ^ u) i (mod-lt n p) l) ∙ ap (λ k. bit_at k i) y)

low_cleared : (n c u : ℕ) → c + n % 2 ^ u ≡ n → c % 2 ^ u ≡ 0
low_cleared n c u e =
    let q = n / 2 ^ u in
    let p = power_positive u in
    let d = div-add-mod n (2 ^ u) in
    let x : c ≡ q * 2 ^ u + 0 = omega (arith, d, e) in
    zeros_low u c (bits_in-same u c 0 (λ i l. ap (λ k. k == 1) (ap (λ k. bit_at k i) x ∙ bit_at_cat_low q u 0 i l)) ∙ bits_in-zero u)

cut_bits_in : (j u k n c : ℕ) → k ≡ j + u → c + n % 2 ^ u ≡ n → bits_in k c ≡ take j (bits_in k n) ++ replicate u false
cut_bits_in zero u k n c e h = ap (λ m. bits_in m c) (let q : k ≡ u = omega (arith, e) in q) ∙ low_zeros u c (low_cleared n c u h)
cut_bits_in (suc j) u zero n c e h = absurd (omega (arith, e))
cut_bits_in (suc j) u (suc k) n c e h = ap (λ x. x ∷ bits_in k c) (same_high n c u k h (omega (arith, e))) ∙ ap (λ x. has_bit n k ∷ x) (cut_bits_in j u k n c (omega (arith, e)) h)

pub last_cleared : (s : List ℕ) (n u c : ℕ) → length s ≡ suc n → u < 8 → c + get_or s n 0 % 2 ^ u ≡ get_or s n 0 → bits_of (set s n c) ≡ take (8 * length s - u) (bits_of s) ++ replicate u false
last_cleared [] n u c e h k = absurd (omega (arith, e))
last_cleared (b ∷ []) zero u c e h k =
    let one : (x : ℕ) → bits_of (x ∷ []) ≡ bits_in 8 x = λ x. bits_of-cons x [] ∙ ap (λ y. bits_in 8 x ++ y) bits_of-nil ∙ append-nil (bits_in 8 x) in
    one c ∙ cut_bits_in (8 * 1 - u) u 8 b c (omega arith) k ∙ ap (λ x. take (8 * 1 - u) x ++ replicate u false) (sym (one b))
last_cleared (b ∷ []) (suc n) u c e h k = absurd (omega (arith, e))
last_cleared (b ∷ d ∷ r) zero u c e h k = absurd (omega (arith, e))
last_cleared (b ∷ d ∷ r) (suc n) u c e h k =
    bits_of-cons b (set (d ∷ r) n c) ∙ ap (λ x. bits_in 8 b ++ x) (last_cleared (d ∷ r) n u c (omega (arith, e)) h k)
    ∙ ap (λ m. take m (bits_in 8 b ++ bits_of (d ∷ r)) ++ replicate u false) (sym (last_place (length (d ∷ r)) u (omega arith) h))
    ∙ ap (λ x. take (8 * length (b ∷ d ∷ r) - u) x ++ replicate u false) (sym (bits_of-cons b (d ∷ r)))

-- how many there are

-- the first n items, with d behind where there are fewer
fit : {A : Type 0} → A → ℕ → List A → List A
fit d zero v = []
fit d (suc n) [] = d ∷ fit d n []
fit d (suc n) (x ∷ v) = x ∷ fit d n v

fit-nil : {A : Type 0} (d : A) (n : ℕ) → fit d n [] ≡ replicate n d
unfolding fit
fit-nil d zero = refl
fit-nil d (suc n) = ap (λ x. d ∷ x) (fit-nil d n)

fit_is : {A : Type 0} (d : A) (n : ℕ) (v : List A) → take n v ++ replicate (n - length v) d ≡ fit d n v
unfolding fit
fit_is d zero v = ap (λ k. replicate k d) (let q : 0 - length v ≡ 0 = omega arith in q)
fit_is d (suc n) [] = ap (λ k. replicate k d) (let q : suc n - 0 ≡ suc n = omega arith in q) ∙ ap (λ x. d ∷ x) (sym (fit-nil d n))
fit_is d (suc n) (x ∷ v) = ap (λ r. x ∷ r) (ap (λ k. take n v ++ replicate k d) (let q : suc n - suc (length v) ≡ n - length v = omega arith in q) ∙ fit_is d n v)

fit-zeros : {A : Type 0} (d : A) (n k : ℕ) → fit d n (replicate k d) ≡ fit d n []
unfolding fit
fit-zeros d zero k = refl
fit-zeros d (suc n) zero = refl
fit-zeros d (suc n) (suc k) = ap (λ x. d ∷ x) (fit-zeros d n k)

fit-padded : {A : Type 0} (d : A) (n : ℕ) (v : List A) (k : ℕ) → fit d n (v ++ replicate k d) ≡ fit d n v
unfolding fit
fit-padded d zero v k = refl
fit-padded d (suc n) [] k = fit-zeros d (suc n) k
fit-padded d (suc n) (x ∷ v) k = ap (λ r. x ∷ r) (fit-padded d n v k)

length-fit : {A : Type 0} (d : A) (n : ℕ) (v : List A) → length (fit d n v) ≡ n
unfolding fit
length-fit d zero v = refl
length-fit d (suc n) [] = ap suc (length-fit d n [])
length-fit d (suc n) (x ∷ v) = ap suc (length-fit d n v)

take-fit : {A : Type 0} (d : A) (n m : ℕ) (v : List A) → n ≤ m → take n (fit d m v) ≡ fit d n v
unfolding fit
take-fit d zero m v h = refl
take-fit d (suc n) zero v h = absurd (omega (arith, h))
take-fit d (suc n) (suc m) [] h = ap (λ x. d ∷ x) (take-fit d n m [] (omega (arith, h)))
take-fit d (suc n) (suc m) (x ∷ v) h = ap (λ r. x ∷ r) (take-fit d n m v (omega (arith, h)))

eight_times : (k : ℕ) → 8 * suc k ≡ suc (suc (suc (suc (suc (suc (suc (suc (8 * k))))))))
eight_times k = omega arith

bits_of-fit : (k : ℕ) (s : List ℕ) → bits_of (fit 0 k s) ≡ fit false (8 * k) (bits_of s)
unfolding fit bits_of
bits_of-fit zero s = refl
bits_of-fit (suc k) [] = ap (λ x. bits_in 8 0 ++ x) (bits_of-fit k []) ∙ sym (ap (λ n. fit false n []) (eight_times k))
bits_of-fit (suc k) (b ∷ s) = ap (λ x. bits_in 8 b ++ x) (bits_of-fit k s) ∙ sym (ap (λ n. fit false n (bits_in 8 b ++ bits_of s)) (eight_times k))

-- the bits of zero bytes
pub bits_of-zeros : (k : ℕ) → bits_of (replicate k 0) ≡ replicate (8 * k) false
bits_of-zeros k = ap bits_of (sym (fit-nil 0 k)) ∙ bits_of-fit k [] ∙ ap (fit false (8 * k)) bits_of-nil ∙ fit-nil false (8 * k)

pub pads_zeros : (n k u : ℕ) → u ≡ unused_bits n → 8 * k ≡ n + unused_bits n → Pads (replicate k 0) u (replicate n false)
pads_zeros n k u e h = pads_from (replicate k 0) u (replicate n false) (omega (arith, e)) (bits_of-zeros k ∙ ap (λ m. replicate m false) (let q : 8 * k ≡ n + u = omega (arith, e, h) in q) ∙ sym (replicate-append-replicate n u false))

pub pads_resized : (s m t : List ℕ) (v n k u : ℕ) → IsPadded s v → u ≡ unused_bits n → 8 * k ≡ n + unused_bits n → m ≡ take k s ++ replicate (k - length s) 0 → bits_of t ≡ take (8 * length m - u) (bits_of m) ++ replicate u false → Pads t u (resized n (used s v))
pads_resized s m t v n k u p e h i j =
    let z : m ≡ fit 0 k s = i ∙ fit_is 0 k s in
    let b : bits_of m ≡ fit false (8 * k) (bits_of s) = ap bits_of z ∙ bits_of-fit k s in
    let l : 8 * length m ≡ 8 * k = sym (length-bits_of m) ∙ ap length b ∙ length-fit false (8 * k) (bits_of s) in
    let f : 8 * length m - u ≡ n = omega (arith, l, h, e) in
    pads_from t u (resized n (used s v)) (omega (arith, e))
    (j ∙ ap (λ x. x ++ replicate u false)
    (ap (λ x. take x (bits_of m)) f ∙ ap (take n) b ∙ take-fit false n (8 * k) (bits_of s) (omega (arith, h)) ∙ ap (fit false n) (used_is s v p) ∙ fit-padded false n (used s v) v ∙ sym (fit_is false n (used s v))))
