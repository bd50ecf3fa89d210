-- Facts about bit strings.
use Rattle.std.proofs.Common.{◌≡◌, ℕ, zero, suc, ◌+◌, ◌-◌, ◌*◌, ◌/◌, ◌%◌, ◌^◌, ◌<◌, ◌≤◌, ◌≢◌, ◌==◌, Bool, true, false, cond, List, [], ◌∷◌, ◌++◌, length, take, drop, get_or, refl, sym, ap, ◌∙◌, arith, append-nil, length-append}
use Rattle.std.specs.Prelude.{replicate, nat_eq}
use Rattle.std.specs.Bool.{Decides, beq}
use Rattle.std.specs.Cmp.{booleans_Decides}
use Rattle.std.specs.Cmp.Lexicographic.{pointwise, pointwise_decides, bytes_decides}
use Rattle.std.specs.Int.{bit_at}
use Rattle.std.proofs.Math.Nat.{pow-suc, mod-eq_of_lt}
use Rattle.std.proofs.Math.Seq.{take-append_seam, drop-append_seam}
use Rattle.std.proofs.lemmas.Nat.{mod-pow-add}
use Rattle.std.proofs.lemmas.Nat.Bits.{bit_at_cat_low, bit_at_cat_high, bit_at-lt}
use Rattle.std.proofs.lemmas.List.{take-append-drop, length-replicate, length-take-le}
use Rattle.std.proofs.lemmas.Bool.Decides.{nat_tests, same_from_decides}
use Rattle.x509_der.specs.Integer.{AreBytes}
use Rattle.x509_der_parts.specs.facts.Lists.{same_front}
use Rattle.x509_der_parts.specs.Shape.{Lawful}
use Rattle.x509_der_parts.specs.laws.PrimitiveContent.{IsPlain, plain_lawful}
use Rattle.x509_der.specs.BitString.{has_bit, bits_in, bits_of, number_in, packed, unused_bits, payload, bit_content, IsBits, bit_strings, used, IsPadded, IsParted}

-- bits of a number
low_bits : (n k : ℕ) → n % 2 ^ suc k ≡ bit_at n k * 2 ^ k + n % 2 ^ k
low_bits n k = ap (λ m. n % 2 ^ m) (let q : suc k ≡ 1 + k = omega arith in q) ∙ mod-pow-add n 1 k

weight : (n k p : ℕ) → cond (has_bit n k) 1 0 * p ≡ bit_at n k * p
weight n k p = let h = bit_at-lt n k in ap (λ x. x * p) (grind (arith, nat_tests))

pub length-bits_in : (k n : ℕ) → length (bits_in k n) ≡ k
length-bits_in zero n = refl
length-bits_in (suc k) n = ap suc (length-bits_in k n)

-- the number of a number's bits
pub number_in-bits_in : (k n : ℕ) → number_in (bits_in k n) ≡ n % 2 ^ k
number_in-bits_in zero n = omega arith
number_in-bits_in (suc k) n =
    ap (λ m. cond (has_bit n k) 1 0 * 2 ^ m + number_in (bits_in k n)) (length-bits_in k n) ∙ ap (λ x. x + number_in (bits_in k n)) (weight n k (2 ^ k)) ∙ ap (λ x. bit_at n k * 2 ^ k + x) (number_in-bits_in k n) ∙ sym (low_bits n k)

pub number_below : (v : List Bool) → number_in v < 2 ^ length v
number_below [] = omega arith
number_below (true ∷ v) = rw (pow-suc 2 (length v)) (omega (arith, number_below v))
number_below (false ∷ v) = rw (pow-suc 2 (length v)) (omega (arith, number_below v))

-- numbers with the same low bits
pub bits_in-same : (k m n : ℕ) → ((i : ℕ) → i < k → has_bit m i ≡ has_bit n i) → bits_in k m ≡ bits_in k n
bits_in-same zero m n h = refl
bits_in-same (suc k) m n h =
    ap (λ x. x ∷ bits_in k m) (h k (omega arith)) ∙ ap (λ x. has_bit n k ∷ x) (bits_in-same k m n (λ i l. h i (omega (arith, l))))

first_bit : (b : Bool) (m k : ℕ) → m < 2 ^ k → has_bit (cond b 1 0 * 2 ^ k + m) k ≡ b
first_bit true m k h = ap (λ x. x == 1) (bit_at_cat_high 1 k m k h (omega arith) ∙ ap (bit_at 1) (let q : k - k ≡ 0 = omega arith in q))
first_bit false m k h = ap (λ x. x == 1) (bit_at_cat_high 0 k m k h (omega arith) ∙ ap (bit_at 0) (let q : k - k ≡ 0 = omega arith in q))

-- the bits of bits' number
pub bits_in-number_in : (v : List Bool) → bits_in (length v) (number_in v) ≡ v
bits_in-number_in [] = refl
bits_in-number_in (b ∷ v) =
    ap (λ x. x ∷ bits_in (length v) (cond b 1 0 * 2 ^ length v + number_in v)) (first_bit b (number_in v) (length v) (number_below v))
    ∙ ap (λ x. b ∷ x) (bits_in-same (length v) (cond b 1 0 * 2 ^ length v + number_in v) (number_in v) (λ i l. ap (λ x. x == 1) (bit_at_cat_low (cond b 1 0) (length v) (number_in v) i l)) ∙ bits_in-number_in v)

-- bits of bytes
pub bits_of-nil : bits_of [] ≡ []
unfolding bits_of
bits_of-nil = refl

pub bits_of-cons : (b : ℕ) (r : List ℕ) → bits_of (b ∷ r) ≡ bits_in 8 b ++ bits_of r
unfolding bits_of
bits_of-cons b r = refl

pub length-bits_of : (s : List ℕ) → length (bits_of s) ≡ 8 * length s
unfolding bits_of
length-bits_of [] = refl
length-bits_of (b ∷ r) = omega (arith, length-bits_of r)

pub bits_of-append : (s t : List ℕ) → bits_of (s ++ t) ≡ bits_of s ++ bits_of t
unfolding bits_of
bits_of-append [] t = refl
bits_of-append (b ∷ s) t = ap (λ x. bits_in 8 b ++ x) (bits_of-append s t)

-- bytes are what their bits are packed into
pub packed-bits_of : (s : List ℕ) → AreBytes s → packed (bits_of s) ≡ s
unfolding bits_of packed
packed-bits_of [] h = refl
packed-bits_of (b ∷ r) h =
    ap (λ x. x ∷ packed (bits_of r)) (number_in-bits_in 8 b ∙ mod-eq_of_lt (h 0)) ∙ ap (λ x. b ∷ x) (packed-bits_of r (λ k. h (suc k)))

-- bits are those of the bytes that they are packed into, where they fill these
pub bits_of-packed : (k : ℕ) (v : List Bool) → length v ≡ 8 * k → bits_of (packed v) ≡ v
unfolding bits_of packed
bits_of-packed zero [] e = refl
bits_of-packed zero (b ∷ v) e = absurd (omega (arith, e))
bits_of-packed (suc k) (a ∷ b ∷ c ∷ d ∷ e ∷ f ∷ g ∷ h ∷ r) q =
    ap (λ x. x ++ bits_of (packed r)) (bits_in-number_in (a ∷ b ∷ c ∷ d ∷ e ∷ f ∷ g ∷ h ∷ [])) ∙ ap (λ x. (a ∷ b ∷ c ∷ d ∷ e ∷ f ∷ g ∷ h ∷ []) ++ x) (bits_of-packed k r (omega (arith, q)))
bits_of-packed (suc k) _ q = absurd (omega (arith, q))

-- unused bits
pub unused_few : (n : ℕ) → unused_bits n < 8
unused_few n = omega arith

pub unused_fill : (n : ℕ) → n + unused_bits n ≡ 8 * ((n + unused_bits n) / 8)
unused_fill n = omega arith

pub unused_is : (n u : ℕ) → u < 8 → u ≤ 8 * n → unused_bits (8 * n - u) ≡ u
unused_is n u h l = omega arith

length-filled : (v : List Bool) → length (v ++ replicate (unused_bits (length v)) false) ≡ 8 * ((length v + unused_bits (length v)) / 8)
length-filled v = length-append v (replicate (unused_bits (length v)) false) ∙ ap (λ x. length v + x) (length-replicate (unused_bits (length v)) false) ∙ unused_fill (length v)

pub bits_of-payload : (v : List Bool) → bits_of (payload v) ≡ v ++ replicate (unused_bits (length v)) false
bits_of-payload v = bits_of-packed ((length v + unused_bits (length v)) / 8) (v ++ replicate (unused_bits (length v)) false) (length-filled v)

-- a content's bits are told by it
same_replicate : (m n : ℕ) → m ≡ n → replicate m false ≡ replicate n false
same_replicate m n e = ap (λ k. replicate k false) e

same_length : (v w : List Bool) (m n : ℕ) → m ≡ n → v ++ replicate m false ≡ w ++ replicate n false → length v ≡ length w
same_length v w m n e h = omega (arith, e, ap length h, length-append v (replicate m false), length-append w (replicate n false), length-replicate m false, length-replicate n false)

same_content : (v w : List Bool) → bit_content v ≡ bit_content w → v ≡ w
same_content v w e =
    let u : unused_bits (length v) ≡ unused_bits (length w) = cc in
    let p : payload v ≡ payload w = cc in
    let b : v ++ replicate (unused_bits (length v)) false ≡ w ++ replicate (unused_bits (length w)) false = sym (bits_of-payload v) ∙ ap bits_of p ∙ bits_of-payload w in
    (same_front v w _ _ (same_length v w _ _ u b) b).0

pub bits_plain : IsPlain IsBits bit_content (λ v. Unit {0})
bits_plain = record {
  one = λ v w p a b. same_content v w (sym a ∙ b);
  written = λ v d. refl;
  strict = λ v p a. a;
  valid = λ v p a. tt;
}

pub bits_lawful : Lawful bit_strings
bits_lawful = plain_lawful IsBits bit_content (λ v. Unit {0}) ⊥ bits_plain

-- bytes whose unused bits are zero

-- what bytes are padded to
pub record Pads (s : List ℕ) (u : ℕ) (v : List Bool) : Type 0 where
  pub padded : IsPadded s u
  pub used : used s u ≡ v

pub pads_from : (s : List ℕ) (u : ℕ) (v : List Bool) → u < 8 → bits_of s ≡ v ++ replicate u false → Pads s u v
pads_from s u v h e =
    let n : length v + u ≡ 8 * length s = omega (arith, length-bits_of s, ap length e, length-append v (replicate u false), length-replicate u false) in
    let k : 8 * length s - u ≡ length v = omega (arith, n) in
    record {
      padded = record {
        few = h;
        within = omega (arith, n);
        zeros = ap (λ m. drop m (bits_of s)) k ∙ ap (drop (length v)) e ∙ drop-append_seam v (replicate u false);
      };
      used = ap (λ m. take m (bits_of s)) k ∙ ap (take (length v)) e ∙ take-append_seam v (replicate u false);
    }

pub used_is : (s : List ℕ) (u : ℕ) → IsPadded s u → bits_of s ≡ used s u ++ replicate u false
used_is s u h = sym (take-append-drop (8 * length s - u) (bits_of s)) ∙ ap (λ x. used s u ++ x) h.zeros

pub length-used : (s : List ℕ) (u : ℕ) → length (used s u) ≡ 8 * length s - u
length-used s u = length-take-le (8 * length s - u) (bits_of s) (omega (arith, length-bits_of s))

pub unused-used : (s : List ℕ) (u : ℕ) → IsPadded s u → unused_bits (length (used s u)) ≡ u
unused-used s u h = ap unused_bits (length-used s u) ∙ unused_is (length s) u h.few h.within

pub payload-used : (s : List ℕ) (u : ℕ) → IsPadded s u → AreBytes s → payload (used s u) ≡ s
payload-used s u h b =
    ap (λ n. packed (used s u ++ replicate n false)) (unused-used s u h) ∙ ap packed (sym (used_is s u h)) ∙ packed-bits_of s b

pub content-used : (s : List ℕ) (u : ℕ) → IsPadded s u → AreBytes s → bit_content (used s u) ≡ u ∷ s
content-used s u h b = ap (λ x. x ∷ payload (used s u)) (unused-used s u h) ∙ ap (λ x. u ∷ x) (payload-used s u h b)

-- a content is a number of unused bits, and bytes that they end
pub padded_payload : (v : List Bool) → Pads (payload v) (unused_bits (length v)) v
padded_payload v = pads_from (payload v) (unused_bits (length v)) v (unused_few (length v)) (bits_of-payload v)

pub content_is : (s : List ℕ) (u : ℕ) (v : List Bool) → IsBits v (u ∷ s) → IsPadded s u
content_is s u v e =
    let a : unused_bits (length v) ≡ u = cc in
    let b : payload v ≡ s = cc in
    rw (← a, ← b) (padded_payload v).padded

-- all bits of bytes are used where none is unused
pub pads_all : (s : List ℕ) → Pads s 0 (bits_of s)
pads_all s = pads_from s 0 (bits_of s) (omega arith) (sym (append-nil (bits_of s)))

-- equality

-- a test of bits decides whether bit strings are the same
pub bits_decide : (v w : List Bool) → Decides (pointwise beq v w) (v ≡ w)
bits_decide = pointwise_decides booleans_Decides

pub same_tested : (v w : List Bool) → unused_bits (length v) ≡ unused_bits (length w) → pointwise nat_eq (payload v) (payload w) ≡ pointwise beq v w
same_tested v w h =
    let k = bytes_decides (payload v) (payload w) in
    same_from_decides (pointwise nat_eq (payload v) (payload w)) (pointwise beq v w)
    (λ e. same_content v w (ap (λ x. x ∷ payload v) h ∙ ap (λ x. unused_bits (length w) ∷ x) (k.0 e)), λ e. k.1 (ap payload e))
    (bits_decide v w)

pub other_tested : (v w : List Bool) → unused_bits (length v) ≢ unused_bits (length w) → false ≡ pointwise beq v w
other_tested v w h =
    same_from_decides false (pointwise beq v w) (λ e. absurd cc, λ e. absurd (h (ap (λ x. unused_bits (length x)) e))) (bits_decide v w)

-- parting a content
pub parted_is : (p : List ℕ) (a : ℕ) (s : List ℕ) → AreBytes p → p ≡ a ∷ s → IsPadded s a → IsParted p a s
parted_is p a s b e h =
    let d : AreBytes s = λ k. (rw e at b) (suc k) in
    record { content_is = e; padded = h; bits = e ∙ sym (content-used s a h d) }

pub not_parted : (p : List ℕ) (a : ℕ) (s : List ℕ) → p ≡ a ∷ s → (IsPadded s a → ⊥) → (v : List Bool) → IsBits v p → ⊥
not_parted p a s e n v h = n (content_is s a v (sym e ∙ h))

pub head_tail : (p : List ℕ) → (length p == 0) ≡ false → p ≡ get_or p 0 0 ∷ drop 1 p
head_tail [] h = cc
head_tail (b ∷ r) h = refl
