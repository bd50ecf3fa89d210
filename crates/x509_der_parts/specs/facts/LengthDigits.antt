-- Facts about length digits.
use Rattle.std.proofs.Common.{◌≡◌, ℕ, zero, suc, ◌+◌, ◌-◌, ◌*◌, ◌/◌, ◌%◌, ◌^◌, ◌≤◌, ◌<◌, ◌==◌, if◌then◌else◌, List, [], ◌∷◌, ◌++◌, length, take, drop, get_or, ◌⊎◌, ⊎_elim, refl, ap, sym, ◌∙◌, arith, append_assoc, append-nil, length-append}
use Rattle.std.proofs.lemmas.Bool.Decides.{nat_tests}
use Rattle.std.proofs.lemmas.Bool.{cases_lt}
use Rattle.std.proofs.lemmas.List.{take_at, take-append-drop, drop-drop, length-take-le, length-take, length-drop, get_or-take, get_or-drop, get_or_past}
use Rattle.std.proofs.Math.Nat.{pow-suc}
use Rattle.x509_der_parts.specs.Element.{base256, digits, value_from, base}
use Rattle.x509_der_parts.specs.facts.Lists.{same_front}

-- the test of a number below a bound, computed
zero_test : (n : ℕ) (x y : List ℕ) → n ≡ 0 → (if n == 0 then x else y) ≡ x
zero_test n x y e = rw e refl

more_test : (n : ℕ) (x y : List ℕ) → 0 < n → (if n == 0 then x else y) ≡ y
more_test n x y h = grind (arith, nat_tests)

base_done : (f : ℕ) (tail : List ℕ) → base256 f 0 tail ≡ tail
base_done zero tail = refl
base_done (suc f) tail = refl

base_step : (f n : ℕ) (tail : List ℕ) → 0 < n → base256 (suc f) n tail ≡ base256 f (n / 256) (n % 256 ∷ tail)
base_step f n tail h = more_test n tail (base256 f (n / 256) (n % 256 ∷ tail)) h

-- the fuel does not matter, and the tail stays behind
base_is : (f g n : ℕ) (tail : List ℕ) → n ≤ f → n ≤ g → base256 f n tail ≡ base256 g n [] ++ tail
base_is zero g n tail h k = let e : n ≡ 0 = omega arith in rw e (sym (ap (λ x. x ++ tail) (base_done g [])))
base_is (suc f) zero n tail h k = let e : n ≡ 0 = omega arith in rw e refl
base_is (suc f) (suc g) zero tail h k = refl
base_is (suc f) (suc g) (suc n) tail h k =
    let p : 0 < suc n = omega arith in
    let a : suc n / 256 ≤ f = omega arith in
    let b : suc n / 256 ≤ g = omega arith in
    base_step f (suc n) tail p ∙ base_is f g (suc n / 256) (suc n % 256 ∷ tail) a b
    ∙ sym (ap (λ x. x ++ tail) (base_step g (suc n) [] p ∙ base_is g g (suc n / 256) (suc n % 256 ∷ []) b b) ∙ append_assoc (base256 g (suc n / 256) []) (suc n % 256 ∷ []) tail)

pub base_zero : base 0 ≡ []
unfolding base
base_zero = refl

pub base_more : (n : ℕ) → 0 < n → base n ≡ base (n / 256) ++ n % 256 ∷ []
unfolding base
base_more zero h = absurd (omega arith)
base_more (suc n) h =
    let a : suc n / 256 ≤ n = omega arith in
    base_step n (suc n) [] h ∙ base_is n (suc n / 256) (suc n / 256) (suc n % 256 ∷ []) a (omega arith)

pub digits_low : (n : ℕ) → n < 128 → digits n ≡ n ∷ []
unfolding digits
digits_low n h = grind (arith, nat_tests)

pub digits_high : (n : ℕ) → 128 ≤ n → digits n ≡ (128 + length (base n)) ∷ base n
unfolding digits base
digits_high n h = grind (arith, nat_tests)

value_end : (ds : List ℕ) (a d : ℕ) → value_from a (ds ++ d ∷ []) ≡ value_from a ds * 256 + d
value_end [] a d = refl
value_end (x ∷ ds) a d = value_end ds (a * 256 + x) d

value_base_within : (f n : ℕ) → n ≤ f → value_from 0 (base n) ≡ n
value_base_within zero n h = let e : n ≡ 0 = omega arith in rw e (ap (value_from 0) base_zero)
value_base_within (suc f) zero h = ap (value_from 0) base_zero
value_base_within (suc f) (suc n) h =
    let a : suc n / 256 ≤ f = omega arith in
    ap (value_from 0) (base_more (suc n) (omega arith)) ∙ value_end (base (suc n / 256)) 0 (suc n % 256) ∙ omega (arith, value_base_within f (suc n / 256) a)

pub value_base : (n : ℕ) → value_from 0 (base n) ≡ n
value_base n = value_base_within n n (omega arith)

-- digits behind a number that is not zero
base_value_behind : (ds : List ℕ) (a : ℕ) → 0 < a → ((i : ℕ) → get_or ds i 0 < 256) → base (value_from a ds) ≡ base a ++ ds
base_value_behind [] a h b = sym (append-nil (base a))
base_value_behind (d ∷ ds) a h b =
    let p : 0 < a * 256 + d = omega arith in
    let q : (a * 256 + d) / 256 ≡ a = omega (arith, b 0) in
    let r : (a * 256 + d) % 256 ≡ d = omega (arith, b 0) in
    base_value_behind ds (a * 256 + d) p (λ i. b (suc i))
    ∙ ap (λ x. x ++ ds) (base_more (a * 256 + d) p ∙ ap (λ x. base x ++ (a * 256 + d) % 256 ∷ []) q ∙ ap (λ x. base a ++ x ∷ []) r)
    ∙ append_assoc (base a) (d ∷ []) ds

pub base_value : (ds : List ℕ) → 0 < get_or ds 0 0 → ((i : ℕ) → get_or ds i 0 < 256) → base (value_from 0 ds) ≡ ds
base_value [] h b = absurd (omega arith)
base_value (d ∷ ds) h b =
    let p : 0 < 0 * 256 + d = omega (arith, h) in
    let q : (0 * 256 + d) / 256 ≡ 0 = omega (arith, b 0) in
    let r : (0 * 256 + d) % 256 ≡ d = omega (arith, b 0) in
    base_value_behind ds (0 * 256 + d) p (λ i. b (suc i))
    ∙ ap (λ x. x ++ ds) (base_more (0 * 256 + d) p ∙ ap (λ x. base x ++ (0 * 256 + d) % 256 ∷ []) q ∙ ap (λ x. x ++ (0 * 256 + d) % 256 ∷ []) base_zero ∙ ap (λ x. x ∷ []) r)

pub base_length : (n : ℕ) → 0 < n → length (base n) ≡ length (base (n / 256)) + 1
base_length n h = ap length (base_more n h) ∙ length-append (base (n / 256)) (n % 256 ∷ [])

base_short : (k n : ℕ) → n < 256 ^ k → length (base n) ≤ k
base_short zero n h = let e : n ≡ 0 = omega arith in omega (arith, ap length (ap base e ∙ base_zero))
base_short (suc k) zero h = omega (arith, ap length base_zero)
base_short (suc k) (suc n) h =
    let p : 256 ^ suc k ≡ 256 ^ k * 256 = pow-suc 256 k in
    omega (arith, base_length (suc n) (omega arith), base_short k (suc n / 256) (omega arith))

pub base_eight : (n : ℕ) → n < 2 ^ 64 → length (base n) ≤ 8
base_eight n h = base_short 8 n h

head_append : (a b : List ℕ) → 0 < get_or a 0 0 → get_or (a ++ b) 0 0 ≡ get_or a 0 0
head_append [] b h = absurd (omega arith)
head_append (x ∷ a) b h = refl

head_low : (n : ℕ) → 0 < n → n < 256 → 0 < get_or (base n) 0 0
head_low n p h =
    let q : n / 256 ≡ 0 = omega arith in
    let r : n % 256 ≡ n = omega arith in
    let e : base n ≡ n ∷ [] = base_more n p ∙ ap (λ x. base x ++ n % 256 ∷ []) q ∙ ap (λ x. x ++ n % 256 ∷ []) base_zero ∙ ap (λ x. x ∷ []) r in
    rw e p

head_within : (f n : ℕ) → n ≤ f → 0 < n → 0 < get_or (base n) 0 0
head_within zero n h p = absurd (omega arith)
head_within (suc f) n h p = ⊎_elim (λ l. head_low n p l) (λ l.
    let i = head_within f (n / 256) (omega arith) (omega arith) in
    omega (arith, i, head_append (base (n / 256)) (n % 256 ∷ []) i, ap (λ x. get_or x 0 0) (base_more n p))) (cases_lt n 256)

pub base_head : (n : ℕ) → 0 < n → 0 < get_or (base n) 0 0
base_head n p = head_within n n (omega arith) p

pub digits_some : (n : ℕ) → 1 ≤ length (digits n)
digits_some n = ⊎_elim (λ l. omega (arith, ap length (digits_low n l))) (λ l. omega (arith, ap length (digits_high n l))) (cases_lt n 128)

both_low : (n m : ℕ) (r t : List ℕ) → n < 128 → m < 128 → digits n ++ r ≡ digits m ++ t → (n ≡ m) × (r ≡ t)
both_low n m r t h k e = let f : n ∷ r ≡ m ∷ t = sym (ap (λ x. x ++ r) (digits_low n h)) ∙ e ∙ ap (λ x. x ++ t) (digits_low m k) in (cc, cc)

low_high : (n m : ℕ) (r t : List ℕ) → n < 128 → 128 ≤ m → digits n ++ r ≡ digits m ++ t → ⊥
low_high n m r t h k e =
    let f : n ∷ r ≡ (128 + length (base m)) ∷ (base m ++ t) = sym (ap (λ x. x ++ r) (digits_low n h)) ∙ e ∙ ap (λ x. x ++ t) (digits_high m k) in
    let g : n ≡ 128 + length (base m) = cc in
    omega (arith, g)

both_high : (n m : ℕ) (r t : List ℕ) → 128 ≤ n → 128 ≤ m → digits n ++ r ≡ digits m ++ t → (n ≡ m) × (r ≡ t)
both_high n m r t h k e =
    let f : (128 + length (base n)) ∷ (base n ++ r) ≡ (128 + length (base m)) ∷ (base m ++ t) = sym (ap (λ x. x ++ r) (digits_high n h)) ∙ e ∙ ap (λ x. x ++ t) (digits_high m k) in
    let g : 128 + length (base n) ≡ 128 + length (base m) = cc in
    let i : base n ++ r ≡ base m ++ t = cc in
    let j = same_front (base n) (base m) r t (omega (arith, g)) i in
    (sym (value_base n) ∙ ap (value_from 0) j.0 ∙ value_base m, j.1)

pub digits_one : (n m : ℕ) (r t : List ℕ) → digits n ++ r ≡ digits m ++ t → (n ≡ m) × (r ≡ t)
digits_one n m r t e =
    ⊎_elim
    (λ h. ⊎_elim (λ k. both_low n m r t h k e) (λ k. absurd (low_high n m r t h k e)) (cases_lt m 128))
    (λ h. ⊎_elim (λ k. absurd (low_high m n t r k h (sym e))) (λ k. both_high n m r t h k e) (cases_lt m 128))
    (cases_lt n 128)

first_is : (bytes : List ℕ) → 1 ≤ length bytes → bytes ≡ get_or bytes 0 0 ∷ drop 1 bytes
first_is [] n = absurd (omega arith)
first_is (b ∷ bytes) n = refl

-- bytes from 128 on that begin with length digits
pub record Long (bytes : List ℕ) (n : ℕ) (q : List ℕ) : Type 0 where
  pub first : get_or bytes 0 0 ≡ 128 + length (base n)
  pub rest : drop 1 bytes ≡ base n ++ q
  pub high : 128 ≤ n

pub long : (bytes : List ℕ) (n : ℕ) (q : List ℕ) → 128 ≤ get_or bytes 0 0 → bytes ≡ digits n ++ q → Long bytes n q
long bytes n q h e =
    ⊎_elim
    (λ l. absurd (omega (arith, h, ap (λ x. get_or x 0 0) (e ∙ ap (λ x. x ++ q) (digits_low n l)))))
    (λ l. let f : bytes ≡ (128 + length (base n)) ∷ (base n ++ q) = e ∙ ap (λ x. x ++ q) (digits_high n l) in
    record { first = ap (λ x. get_or x 0 0) f; rest = ap (drop 1) f; high = l })
    (cases_lt n 128)

pub digits_here : (bytes ds after : List ℕ) (count : ℕ) → 1 ≤ length bytes → get_or bytes 0 0 ≡ 128 + count → count ≡ length ds → drop 1 bytes ≡ ds ++ after → 0 < get_or ds 0 0 → ((i : ℕ) → get_or ds i 0 < 256) → 128 ≤ value_from 0 ds → bytes ≡ digits (value_from 0 ds) ++ after
digits_here bytes ds after count n f c e h b v =
    let d : digits (value_from 0 ds) ≡ (128 + length ds) ∷ ds = digits_high (value_from 0 ds) v ∙ ap (λ x. (128 + length x) ∷ x) (base_value ds h b) in
    first_is bytes n ∙ ap (λ x. x ∷ drop 1 bytes) (f ∙ ap (λ x. 128 + x) c) ∙ ap (λ x. (128 + length ds) ∷ x) e ∙ sym (ap (λ x. x ++ after) d)

pub digit_low_here : (bytes : List ℕ) → 1 ≤ length bytes → get_or bytes 0 0 < 128 → bytes ≡ digits (get_or bytes 0 0) ++ drop 1 bytes
digit_low_here bytes n h = first_is bytes n ∙ sym (ap (λ x. x ++ drop 1 bytes) (digits_low (get_or bytes 0 0) h))

-- why there are none
pub none_empty : (bytes : List ℕ) → length bytes ≡ 0 → (n : ℕ) (q : List ℕ) → n < 2 ^ 64 → bytes ≡ digits n ++ q → ⊥
none_empty bytes h n q k e = omega (arith, h, ap length e, length-append (digits n) q, digits_some n)

pub none_count : (bytes : List ℕ) → 128 ≤ get_or bytes 0 0 → (get_or bytes 0 0 - 128 ≡ 0) ⊎ (8 < get_or bytes 0 0 - 128) → (n : ℕ) (q : List ℕ) → n < 2 ^ 64 → bytes ≡ digits n ++ q → ⊥
none_count bytes h c n q k e =
    let l = long bytes n q h e in
    ⊎_elim (λ z. omega (arith, l.first, l.high, z, base_length n (omega (arith, l.high)))) (λ z. omega (arith, l.first, z, base_eight n k)) c

pub none_short : (bytes : List ℕ) → 128 ≤ get_or bytes 0 0 → length (drop 1 bytes) < get_or bytes 0 0 - 128 → (n : ℕ) (q : List ℕ) → n < 2 ^ 64 → bytes ≡ digits n ++ q → ⊥
none_short bytes h s n q k e =
    let l = long bytes n q h e in
    omega (arith, l.first, s, ap length l.rest, length-append (base n) q)

pub none_zero : (bytes : List ℕ) → 128 ≤ get_or bytes 0 0 → get_or (drop 1 bytes) 0 0 ≡ 0 → (n : ℕ) (q : List ℕ) → n < 2 ^ 64 → bytes ≡ digits n ++ q → ⊥
none_zero bytes h z n q k e =
    let l = long bytes n q h e in
    let p = base_head n (omega (arith, l.high)) in
    omega (arith, z, p, ap (λ x. get_or x 0 0) l.rest, head_append (base n) q p)

pub none_low : (bytes : List ℕ) (number : ℕ) → 128 ≤ get_or bytes 0 0 → number ≡ value_from 0 (take (get_or bytes 0 0 - 128) (drop 1 bytes)) → number < 128 → (n : ℕ) (q : List ℕ) → n < 2 ^ 64 → bytes ≡ digits n ++ q → ⊥
none_low bytes number h v s n q k e =
    let l = long bytes n q h e in
    let c : length (base n) ≡ get_or bytes 0 0 - 128 = omega (arith, l.first) in
    let t : take (get_or bytes 0 0 - 128) (drop 1 bytes) ≡ base n = ap (take (get_or bytes 0 0 - 128)) l.rest ∙ take_at (base n) q _ c in
    omega (arith, v, s, l.high, ap (value_from 0) t, value_base n)

part_bytes : (bytes : List ℕ) (k : ℕ) → ((i : ℕ) → get_or bytes i 0 < 256) → (i : ℕ) → get_or (take k (drop 1 bytes)) i 0 < 256
part_bytes bytes k b i =
    ⊎_elim
    (λ l. rw (get_or-take k (drop 1 bytes) i 0 l, get_or-drop 1 bytes i 0) (b (1 + i)))
    (λ l. rw (get_or_past (take k (drop 1 bytes)) i 0 (omega (arith, length-take k (drop 1 bytes)))) (omega arith))
    (cases_lt i k)

pub high_here : (bytes : List ℕ) (k number : ℕ) → 1 ≤ length bytes → 128 ≤ get_or bytes 0 0 → k ≡ get_or bytes 0 0 - 128 → (k ≡ 0 → ⊥) → k ≤ length (drop 1 bytes) → (get_or (drop 1 bytes) 0 0 ≡ 0 → ⊥) → ((i : ℕ) → get_or bytes i 0 < 256) → number ≡ value_from 0 (take k (drop 1 bytes)) → 128 ≤ number → (bytes ≡ digits number ++ drop (k + 1) bytes) × (k + 1 ≤ length bytes)
high_here bytes k number n h e z l y b v m =
    let ds = take k (drop 1 bytes) in
    let p : 0 < k = omega arith in
    let d : drop 1 bytes ≡ ds ++ drop (k + 1) bytes = sym (take-append-drop k (drop 1 bytes)) ∙ ap (λ x. ds ++ x) (drop-drop k 1 bytes ∙ ap (λ x. drop x bytes) (let q : 1 + k ≡ k + 1 = omega arith in q)) in
    let f : get_or ds 0 0 ≡ get_or (drop 1 bytes) 0 0 = get_or-take k (drop 1 bytes) 0 0 p in (
      digits_here bytes ds (drop (k + 1) bytes) k n (omega arith) (sym (length-take-le k (drop 1 bytes) l)) d (omega (arith, f, y)) (part_bytes bytes k b) (omega arith) ∙ ap (λ x. digits x ++ drop (k + 1) bytes) (sym v),
      omega (arith, length-drop 1 bytes),
    )

pub step_fits : (n i : ℕ) → n < 256 ^ i → i < 8 → n * 256 + 255 < 2 ^ 64
step_fits n zero h k = omega arith
step_fits n (suc zero) h k = omega arith
step_fits n (suc (suc zero)) h k = omega arith
step_fits n (suc (suc (suc zero))) h k = omega arith
step_fits n (suc (suc (suc (suc zero)))) h k = omega arith
step_fits n (suc (suc (suc (suc (suc zero))))) h k = omega arith
step_fits n (suc (suc (suc (suc (suc (suc zero)))))) h k = omega arith
step_fits n (suc (suc (suc (suc (suc (suc (suc zero))))))) h k = omega arith
step_fits n (suc (suc (suc (suc (suc (suc (suc (suc i)))))))) h k = absurd (omega arith)
