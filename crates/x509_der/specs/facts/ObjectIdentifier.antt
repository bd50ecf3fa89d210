-- Facts about object identifiers: their content is read back, one way.
use Rattle.std.specs.Prelude.{◌≡◌, ◌≢◌, ℕ, zero, suc, ◌+◌, ◌*◌, ◌/◌, ◌%◌, ◌-◌, ◌≤◌, ◌<◌, ◌^◌, List, [], ◌∷◌, ◌++◌, length, Option, Some, None, Bool, true, false, ◌&&◌}
use Rattle.std.specs.List.{flat_map, AllByRecursion}
use Rattle.std.proofs.Common.{inl, inr, ◌⊎◌, refl, sym, ap, subst, ◌∙◌, append_assoc, arith, cond, eqb, ltb, length-append, drop, get_or}
use Rattle.std.proofs.lemmas.List.{append-nil}
use Rattle.std.proofs.lemmas.Bool.{eqb-true, eqb-false, eq-eqb, ne_eqb, ltb-true, lt-ltb, ltb-false, le-ltb}
use Rattle.std.proofs.lemmas.Grind.{common_steps}
use Rattle.x509_der_parts.specs.Shape.{Lawful}
use Rattle.x509_der_parts.specs.laws.PrimitiveContent.{IsPlain, plain_lawful}
use Rattle.x509_der.specs.ObjectIdentifier.{IsLawful, high, high_digits, septets, spelled_numbers, oid_content, IsOid, oids, arcs_in, first_of, numbers_from, put_front}

pub chosen : {A : Type 0} (b : Bool) (x y z : A) → cond b x y ≡ z → ((b ≡ true) × (x ≡ z)) ⊎ ((b ≡ false) × (y ≡ z))
chosen true x y z e = inl (refl, e)
chosen false x y z e = inr (refl, e)

pub tells : (b : Bool) → (b ≡ true) ⊎ (b ≡ false)
tells true = inl refl
tells false = inr refl

abbrev pub is_small : ℕ → Type 0
is_small n = n < 2 ^ 64

abbrev pub content_numbers : List ℕ → List ℕ → Type 0
content_numbers ns c = AllByRecursion is_small ns × (c ≡ flat_map septets ns)

high-fuel : (f g n : ℕ) → n ≤ f → n ≤ g → high f n ≡ high g n
unfolding high
high-fuel zero zero n a b = refl
high-fuel zero (suc g) n a b = let e : n ≡ 0 = omega arith in rw (eq-eqb n 0 e) refl
high-fuel (suc f) zero n a b = let e : n ≡ 0 = omega arith in rw (eq-eqb n 0 e) refl
high-fuel (suc f) (suc g) n a b =
    elim (tells (eqb n 0)) [
      | inl h ↦ rw h refl
      | inr h ↦ let ne = eqb-false n 0 h in rw (h, high-fuel f g (n / 128) (omega (arith, ne)) (omega (arith, ne))) refl
    ]

high-step : (n a d : ℕ) → n ≡ a * 128 + d → 0 < n → d < 128 → high_digits n ≡ high_digits a ++ (128 + d) ∷ []
unfolding high
high-step zero a d e lt small = absurd (omega arith)
high-step (suc m) a d e lt small =
    let ne : suc m ≢ 0 = λ (k : suc m ≡ 0). omega arith in
    let q : suc m / 128 ≡ a = omega arith in
    let r : suc m % 128 ≡ d = omega arith in
    rw (ne_eqb (suc m) 0 ne, q, r, high-fuel m a a (omega arith) (omega arith)) refl

high-next : (a d : ℕ) → 0 < a * 128 + d → d < 128 → high_digits (a * 128 + d) ≡ high_digits a ++ (128 + d) ∷ []
high-next a d lt small = high-step (a * 128 + d) a d refl lt small

septets-is : (a b : ℕ) → b < 128 → septets (a * 128 + b) ≡ high_digits a ++ b ∷ []
unfolding septets
septets-is a b lt =
    let q : (a * 128 + b) / 128 ≡ a = omega arith in
    let r : (a * 128 + b) % 128 ≡ b = omega arith in
    rw (q, r) refl

pub high-zero : high_digits 0 ≡ []
unfolding high
high-zero = refl

pub front_ok : (n : ℕ) (o : Option (List ℕ)) (ns : List ℕ) → put_front n o ≡ Some ns → (ms : List ℕ) × (o ≡ Some ms) × (n ∷ ms ≡ ns)
front_ok n None ns e = absurd cc
front_ok n (Some ms) ns e = (ms, refl, cc)

none_not : {A : Type 0} (x : A) → ◌≡◌ {A = Option A} None (Some x) → ⊥
none_not x e = cc

pub some_is : {A : Type 0} (x y : A) → ◌≡◌ {A = Option A} (Some x) (Some y) → x ≡ y
some_is x y e = cc

abbrev Spelled : ℕ → List ℕ → List ℕ → Type 0
Spelled acc bs ns = AllByRecursion is_small ns × (high_digits acc ++ bs ≡ flat_map septets ns)

not_both : (a d m : ℕ) → a * 128 + d ≡ m → m ≢ 0 → (eqb a 0 && eqb (128 + d) 128) ≡ false
not_both a d m e ne =
    elim (tells (eqb a 0)) [
      | inr h ↦ rw h refl
      | inl h ↦
          let z : a ≡ 0 = eqb-true a 0 h in
          let k : 128 + d ≢ 128 = λ (q : 128 + d ≡ 128). ne (omega arith) in
          rw (h, ne_eqb (128 + d) 128 k) refl
    ]

grows : (start : Bool) (acc b : ℕ) → 128 ≤ b → (start ≡ false → 0 < acc) → (start && eqb b 128) ≡ false → 0 < acc * 128 + (b - 128)
grows true acc b top p e = let ne = eqb-false b 128 e in omega (arith, ne)
grows false acc b top p e = omega (arith, p refl)

numbers-none : numbers_from 0 true [] ≡ Some []
unfolding numbers_from
numbers-none = refl

feed_one : (a d m : ℕ) (tail : List ℕ) → d < 128 → a * 128 + d ≡ m → m ≢ 0 → numbers_from a (eqb a 0) ((128 + d) ∷ tail) ≡ numbers_from m (eqb m 0) tail
unfolding numbers_from
feed_one a d m tail lt e ne =
    let off : (eqb a 0 && eqb (128 + d) 128) ≡ false = not_both a d m e ne in
    let back : a * 128 + ((128 + d) - 128) ≡ m = omega arith in
    rw (le-ltb (128 + d) 128 (omega arith), off, lt-ltb (128 + d) 256 (omega arith), back, ne_eqb m 0 ne) refl

last_one : (a : ℕ) (start : Bool) (d n : ℕ) (tail ns : List ℕ) → d < 128 → a * 128 + d ≡ n → n < 2 ^ 64 → numbers_from 0 true tail ≡ Some ns → numbers_from a start (d ∷ tail) ≡ Some (n ∷ ns)
unfolding numbers_from
last_one a start d n tail ns lt e small h = rw (lt-ltb d 128 lt, e, lt-ltb n 18446744073709551616 small, h) refl

numbers-sound : (bs : List ℕ) (acc : ℕ) (start : Bool) (ns : List ℕ) → (start ≡ true → acc ≡ 0) → (start ≡ false → 0 < acc) → numbers_from acc start bs ≡ Some ns → Spelled acc bs ns
unfolding numbers_from
numbers-sound [] acc true ns z p e = subst (Spelled acc []) (some_is [] ns e) (tt, rw (z refl, high-zero) refl)
numbers-sound [] acc false ns z p e = absurd cc
numbers-sound (b ∷ bs) acc start ns z p e =
    elim (chosen (ltb b 128) (cond (ltb (acc * 128 + b) 18446744073709551616) (put_front (acc * 128 + b) (numbers_from 0 true bs)) None) (cond (start && eqb b 128) None (cond (ltb b 256) (numbers_from (acc * 128 + (b - 128)) false bs) None)) (Some ns) e) [
      | inl h ↦
          let low : b < 128 = ltb-true b 128 h.0 in
          elim (chosen (ltb (acc * 128 + b) 18446744073709551616) (put_front (acc * 128 + b) (numbers_from 0 true bs)) None (Some ns) h.1) [
            | inr g ↦ absurd (none_not ns g.1)
            | inl g ↦
                let f = front_ok (acc * 128 + b) (numbers_from 0 true bs) ns g.1 in
                let r = numbers-sound bs 0 true f.0 (λ q. refl) (λ q. absurd cc) f.1 in
                let rest : bs ≡ flat_map septets f.0 = ap (λ (x : List ℕ). x ++ bs) (sym high-zero) ∙ r.1 in
                let whole : high_digits acc ++ b ∷ bs ≡ septets (acc * 128 + b) ++ flat_map septets f.0 = sym (append_assoc (high_digits acc) (b ∷ []) bs) ∙ ap (λ (x : List ℕ). x ++ bs) (sym (septets-is acc b low)) ∙ ap (λ (x : List ℕ). septets (acc * 128 + b) ++ x) rest in
                subst (Spelled acc (b ∷ bs)) f.2 ((ltb-true (acc * 128 + b) 18446744073709551616 g.0, r.0), whole)
          ]
      | inr h ↦
          let top : 128 ≤ b = ltb-false b 128 h.0 in
          elim (chosen (start && eqb b 128) None (cond (ltb b 256) (numbers_from (acc * 128 + (b - 128)) false bs) None) (Some ns) h.1) [
            | inl g ↦ absurd (none_not ns g.1)
            | inr g ↦
                elim (chosen (ltb b 256) (numbers_from (acc * 128 + (b - 128)) false bs) None (Some ns) g.1) [
                  | inr k ↦ absurd (none_not ns k.1)
                  | inl k ↦
                      let small : b < 256 = ltb-true b 256 k.0 in
                      let more : 0 < acc * 128 + (b - 128) = grows start acc b top p g.0 in
                      let r = numbers-sound bs (acc * 128 + (b - 128)) false ns (λ q. absurd cc) (λ q. more) k.1 in
                      let d : 128 + (b - 128) ≡ b = omega arith in
                      let whole : high_digits acc ++ b ∷ bs ≡ high_digits (acc * 128 + (b - 128)) ++ bs = sym (append_assoc (high_digits acc) (b ∷ []) bs) ∙ ap (λ (x : ℕ). (high_digits acc ++ x ∷ []) ++ bs) (sym d) ∙ ap (λ (x : List ℕ). x ++ bs) (sym (high-next acc (b - 128) more (omega arith))) in
                      (r.0, whole ∙ r.1)
                ]
          ]
    ]

feed : (f m : ℕ) (tail : List ℕ) → m ≤ f → numbers_from 0 true (high f m ++ tail) ≡ numbers_from m (eqb m 0) tail
unfolding high
feed zero m tail le = let e : m ≡ 0 = omega arith in rw e refl
feed (suc f) m tail le =
    elim (tells (eqb m 0)) [
      | inl h ↦ rw (h, eqb-true m 0 h) refl
      | inr h ↦
          let ne = eqb-false m 0 h in
          let d = m % 128 in
          rw h (ap (numbers_from 0 true) (append_assoc (high f (m / 128)) ((128 + d) ∷ []) tail) ∙ feed f (m / 128) ((128 + d) ∷ tail) (omega (arith, ne)) ∙ feed_one (m / 128) d m tail (omega arith) (omega arith) ne ∙ ap (λ (x : Bool). numbers_from m x tail) h)
    ]

numbers-again : (ns : List ℕ) → AllByRecursion is_small ns → numbers_from 0 true (flat_map septets ns) ≡ Some ns
unfolding septets
numbers-again [] ok = numbers-none
numbers-again (n ∷ ns) ok =
    ap (numbers_from 0 true) (append_assoc (high_digits (n / 128)) ((n % 128) ∷ []) (flat_map septets ns)) ∙ feed (n / 128) (n / 128) ((n % 128) ∷ flat_map septets ns) (omega arith)
    ∙ last_one (n / 128) (eqb (n / 128) 0) (n % 128) n (flat_map septets ns) ns (omega arith) (omega arith) ok.0 (numbers-again ns ok.1)

-- numbers in front of those that are still to come
abbrev pub ahead : List ℕ → Option (List ℕ) → Option (List ℕ)
ahead ms None = None
ahead ms (Some ns) = Some (ms ++ ns)

ahead_push : (ms : List ℕ) (n : ℕ) (o : Option (List ℕ)) → ahead ms (put_front n o) ≡ ahead (ms ++ n ∷ []) o
ahead_push ms n None = refl
ahead_push ms n (Some ns) = ap Some (sym (append_assoc ms (n ∷ []) ns))

-- what is read so far, and what the rest of the bytes has to say
pub record Numbering (bytes numbers : List ℕ) (i sofar : ℕ) (fresh : Bool) : Type 0 where
  pub same : numbers_from 0 true bytes ≡ ahead numbers (numbers_from sofar fresh (drop i bytes))
  pub zero : fresh ≡ true → sofar ≡ 0

none_ahead : (ms : List ℕ) (o : Option (List ℕ)) → o ≡ None → ahead ms o ≡ None
none_ahead ms o e = rw e refl

nothing_ahead : (o : Option (List ℕ)) → ahead [] o ≡ o
nothing_ahead None = refl
nothing_ahead (Some ns) = refl

pub numbering_start : (bytes : List ℕ) → Numbering bytes [] 0 0 true
numbering_start bytes = record { same = sym (nothing_ahead (numbers_from 0 true bytes)); zero = λ e. refl }

drop_next : (bytes : List ℕ) (i d : ℕ) → i < length bytes → drop i bytes ≡ get_or bytes i d ∷ drop (i + 1) bytes
drop_next bytes i d h = grind (arith, common_steps)

low_step : (acc b : ℕ) (start : Bool) (t : List ℕ) → b < 128 → acc * 128 + b < 2 ^ 64 → numbers_from acc start (b ∷ t) ≡ put_front (acc * 128 + b) (numbers_from 0 true t)
unfolding numbers_from
low_step acc b start t lt small = rw (lt-ltb b 128 lt, lt-ltb (acc * 128 + b) 18446744073709551616 small) refl

high_next : (acc b : ℕ) (start : Bool) (t : List ℕ) → 128 ≤ b → b < 256 → (start && eqb b 128) ≡ false → numbers_from acc start (b ∷ t) ≡ numbers_from (acc * 128 + (b - 128)) false t
unfolding numbers_from
high_next acc b start t top small e = rw (le-ltb b 128 top, e, lt-ltb b 256 small) refl

zero_first : (acc b : ℕ) (start : Bool) (t : List ℕ) → 128 ≤ b → (start && eqb b 128) ≡ true → numbers_from acc start (b ∷ t) ≡ None
unfolding numbers_from
zero_first acc b start t top e = rw (le-ltb b 128 top, e) refl

-- a number that has grown too large
too_large : (bs : List ℕ) (acc : ℕ) → 2 ^ 57 ≤ acc → numbers_from acc false bs ≡ None
unfolding numbers_from
too_large [] acc h = refl
too_large (b ∷ bs) acc h =
    elim (tells (ltb b 128)) [
      | inl k ↦ rw (k, le-ltb (acc * 128 + b) 18446744073709551616 (omega (arith, h))) refl
      | inr k ↦ elim (tells (ltb b 256)) [
        | inl g ↦ rw (k, g) (too_large bs (acc * 128 + (b - 128)) (omega (arith, h)))
        | inr g ↦ rw (k, g) refl
      ]
    ]

large_any : (bs : List ℕ) (acc : ℕ) (start : Bool) → 2 ^ 57 ≤ acc → (start ≡ true → acc ≡ 0) → numbers_from acc start bs ≡ None
large_any bs acc true h z = let e = z refl in absurd (omega (arith, e, h))
large_any bs acc false h z = too_large bs acc h

module _ (bytes numbers : List ℕ) (i sofar : ℕ) (fresh : Bool) (inv : Numbering bytes numbers i sofar fresh) where
  pub numbering_large : 2 ^ 57 ≤ sofar → numbers_from 0 true bytes ≡ None
  numbering_large h = inv.same ∙ none_ahead numbers _ (large_any (drop i bytes) sofar fresh h inv.zero)

  pub numbering_low : (b d : ℕ) → i < length bytes → b ≡ get_or bytes i d → b < 128 → sofar * 128 + b < 2 ^ 64 → Numbering bytes (numbers ++ (sofar * 128 + b) ∷ []) (i + 1) 0 true
  numbering_low b d h e lt small =
      let t : drop i bytes ≡ b ∷ drop (i + 1) bytes = drop_next bytes i d h ∙ ap (λ x. x ∷ drop (i + 1) bytes) (sym e) in
      record {
        same = inv.same ∙ ap (λ x. ahead numbers (numbers_from sofar fresh x)) t ∙ ap (ahead numbers) (low_step sofar b fresh (drop (i + 1) bytes) lt small) ∙ ahead_push numbers (sofar * 128 + b) (numbers_from 0 true (drop (i + 1) bytes));
        zero = λ q. refl;
      }

  pub numbering_high : (b d : ℕ) → i < length bytes → b ≡ get_or bytes i d → 128 ≤ b → b < 256 → (fresh && eqb b 128) ≡ false → Numbering bytes numbers (i + 1) (sofar * 128 + (b - 128)) false
  numbering_high b d h e top small n =
      let t : drop i bytes ≡ b ∷ drop (i + 1) bytes = drop_next bytes i d h ∙ ap (λ x. x ∷ drop (i + 1) bytes) (sym e) in
      record {
        same = inv.same ∙ ap (λ x. ahead numbers (numbers_from sofar fresh x)) t ∙ ap (ahead numbers) (high_next sofar b fresh (drop (i + 1) bytes) top small n);
        zero = λ q. absurd cc;
      }

  pub numbering_zero : (b d : ℕ) → i < length bytes → b ≡ get_or bytes i d → 128 ≤ b → (fresh && eqb b 128) ≡ true → numbers_from 0 true bytes ≡ None
  numbering_zero b d h e first_of n =
      let t : drop i bytes ≡ b ∷ drop (i + 1) bytes = drop_next bytes i d h ∙ ap (λ x. x ∷ drop (i + 1) bytes) (sym e) in
      inv.same ∙ ap (λ x. ahead numbers (numbers_from sofar fresh x)) t ∙ none_ahead numbers _ (zero_first sofar b fresh (drop (i + 1) bytes) first_of n)

end_some : (sofar : ℕ) → numbers_from sofar true [] ≡ Some []
unfolding numbers_from
end_some sofar = refl

end_none : (sofar : ℕ) → numbers_from sofar false [] ≡ None
unfolding numbers_from
end_none sofar = refl

drop_end : (bytes : List ℕ) (i : ℕ) → length bytes ≤ i → drop i bytes ≡ []
drop_end bytes i h = grind (arith, common_steps)

pub numbering_end : (bytes numbers : List ℕ) (i sofar : ℕ) (fresh : Bool) → Numbering bytes numbers i sofar fresh → length bytes ≤ i → fresh ≡ true → numbers_from 0 true bytes ≡ Some numbers
numbering_end bytes numbers i sofar true inv h e = inv.same ∙ ap (λ x. ahead numbers (numbers_from sofar true x)) (drop_end bytes i h) ∙ ap (ahead numbers) (end_some sofar) ∙ ap Some (append-nil numbers)
numbering_end bytes numbers i sofar false inv h e = cc

pub numbering_cut : (bytes numbers : List ℕ) (i sofar : ℕ) (fresh : Bool) → Numbering bytes numbers i sofar fresh → length bytes ≤ i → fresh ≡ false → numbers_from 0 true bytes ≡ None
numbering_cut bytes numbers i sofar false inv h e = inv.same ∙ ap (λ x. ahead numbers (numbers_from sofar false x)) (drop_end bytes i h) ∙ none_ahead numbers _ (end_none sofar)
numbering_cut bytes numbers i sofar true inv h e = cc

-- how many bytes the high digits are, and which
pub highs_zero : length (high_digits 0) ≡ 0
highs_zero = ap length high-zero

pub highs_more : (n : ℕ) → 0 < n → high_digits n ≡ high_digits (n / 128) ++ (128 + n % 128) ∷ []
highs_more n h = high-step n (n / 128) (n % 128) (omega arith) h (omega arith)

pub highs_longer : (n : ℕ) → 0 < n → length (high_digits n) ≡ length (high_digits (n / 128)) + 1
highs_longer n h = omega (arith, ap length (highs_more n h), length-append (high_digits (n / 128)) ((128 + n % 128) ∷ []))

pub septets_are : (n : ℕ) → septets n ≡ high_digits (n / 128) ++ (n % 128) ∷ []
unfolding septets
septets_are n = refl

pub septets_length : (n : ℕ) → length (septets n) ≡ length (high_digits (n / 128)) + 1
septets_length n = omega (arith, ap length (septets_are n), length-append (high_digits (n / 128)) ((n % 128) ∷ []))

-- at least two arcs, the first at most 2, the second below 40 under the first two, and each number fits
abbrev pub LawfulArcs : List ℕ → Type 0
LawfulArcs [] = ⊥
LawfulArcs (a ∷ []) = ⊥
LawfulArcs (a ∷ b ∷ r) = (a ≤ 2) × ((a < 2 → b < 40) × AllByRecursion is_small ((40 * a + b) ∷ r))

top_is : (n : ℕ) → (40 * first_of n ≤ n) × ((first_of n ≤ 2) × (first_of n < 2 → n - 40 * first_of n < 40))
top_is n =
    elim (tells (ltb n 40)) [
      | inl h ↦ let k = ltb-true n 40 h in rw h (omega arith, (omega arith, λ x. omega (arith, k)))
      | inr h ↦ elim (tells (ltb n 80)) [
        | inl g ↦ let k = ltb-true n 80 g in let m = ltb-false n 40 h in rw (h, g) (omega (arith, m), (omega arith, λ x. omega (arith, k, m)))
        | inr g ↦ let k = ltb-false n 80 g in rw (h, g) (omega (arith, k), (omega arith, λ x. absurd (omega (arith, x))))
      ]
    ]

pub numbers_back : (ns : List ℕ) → spelled_numbers (arcs_in ns) ≡ ns
numbers_back [] = refl
numbers_back (n ∷ ns) = let t = top_is n in let e : 40 * first_of n + (n - 40 * first_of n) ≡ n = omega (arith, t.0) in ap (λ x. x ∷ ns) e

pub arcs_lawful : (ns : List ℕ) → AllByRecursion is_small ns → (ns ≡ [] → ⊥) → LawfulArcs (arcs_in ns)
arcs_lawful [] ok n = n refl
arcs_lawful (n ∷ ns) ok h = let t = top_is n in let e : 40 * first_of n + (n - 40 * first_of n) ≡ n = omega (arith, t.0) in (t.1.0, (t.1.1, (rw e ok.0, ok.1)))

join_same : (a b c d : ℕ) → a ≤ 2 → c ≤ 2 → (a < 2 → b < 40) → (c < 2 → d < 40) → 40 * a + b ≡ 40 * c + d → (a ≡ c) × (b ≡ d)
join_same a b c d ha hc hb hd e = (grind (arith, ha, hc, hb, hd, e), grind (arith, ha, hc, hb, hd, e))

pub numbers_one : (v w : List ℕ) → LawfulArcs v → LawfulArcs w → spelled_numbers v ≡ spelled_numbers w → v ≡ w
numbers_one [] w h k e = absurd h
numbers_one (a ∷ []) w h k e = absurd h
numbers_one (a ∷ b ∷ r) [] h k e = absurd k
numbers_one (a ∷ b ∷ r) (c ∷ []) h k e = absurd k
numbers_one (a ∷ b ∷ r) (c ∷ d ∷ t) h k e =
    let n : 40 * a + b ≡ 40 * c + d = cc in
    let u : r ≡ t = cc in
    let s = join_same a b c d h.0 k.0 h.1.0 k.1.0 n in
    let s0 = s.0 in
    let s1 = s.1 in
    cc

pub numbers_small : (v : List ℕ) → LawfulArcs v → AllByRecursion is_small (spelled_numbers v)
numbers_small [] h = absurd h
numbers_small (a ∷ []) h = absurd h
numbers_small (a ∷ b ∷ r) h = h.1.1

pub numbers_some : (v : List ℕ) → LawfulArcs v → spelled_numbers v ≡ [] → ⊥
numbers_some [] h e = h
numbers_some (a ∷ []) h e = h
numbers_some (a ∷ b ∷ r) h e = cc

-- the two ways to say which arcs are lawful
all_small : (r : List ℕ) → ((k : ℕ) → k < length r → get_or r k 0 < 2 ^ 64) → AllByRecursion is_small r
all_small [] h = tt
all_small (x ∷ r) h = (h 0 (omega arith), all_small r (λ k l. h (suc k) (omega (arith, l))))

small_at : (r : List ℕ) → AllByRecursion is_small r → (k : ℕ) → k < length r → get_or r k 0 < 2 ^ 64
small_at [] h k l = absurd (omega (arith, l))
small_at (x ∷ r) h zero l = h.0
small_at (x ∷ r) h (suc k) l = small_at r h.1 k (omega (arith, l))

pub by_cases : (v : List ℕ) → IsLawful v → LawfulArcs v
by_cases [] h = absurd (let l = h.len in omega (arith, l))
by_cases (a ∷ []) h = absurd (let l = h.len in omega (arith, l))
by_cases (a ∷ b ∷ r) h =
    let f : a < 3 = h.first in
    let s : a < 2 → b < 40 = h.second in
    let t : 40 * a + b < 2 ^ 64 = h.both in
    (omega (arith, f), (s, (t, all_small r (λ k l. h.each (suc (suc k)) (omega (arith, l))))))

pub by_index : (v : List ℕ) → LawfulArcs v → IsLawful v
by_index [] h = absurd h
by_index (a ∷ []) h = absurd h
by_index (a ∷ b ∷ r) h = record {
  len = omega arith;
  first = omega (arith, h.0);
  second = h.1.0;
  both = h.1.1.0;
  each = elim [
    | zero ↦ λ l. omega (arith, h.0)
    | suc zero ↦ λ l. omega (arith, h.1.1.0)
    | suc (suc k) ↦ λ l. small_at r h.1.1.1 k (omega (arith, l))
  ];
}

-- contents
pub oid_parsed : (v p : List ℕ) → IsOid v p → numbers_from 0 true p ≡ Some (spelled_numbers v)
oid_parsed v p h = ap (numbers_from 0 true) h.1 ∙ numbers-again (spelled_numbers v) (numbers_small v (by_cases v h.0))

pub oid_plain : IsPlain IsOid oid_content IsLawful
oid_plain = record {
  one = λ v w p a b. numbers_one v w (by_cases v a.0) (by_cases w b.0) (some_is _ _ (sym (oid_parsed v p a) ∙ oid_parsed w p b));
  written = λ v d. (d, refl);
  strict = λ v p a. a.1;
  valid = λ v p a. a.0;
}

pub oid_lawful : Lawful oids
oid_lawful = plain_lawful IsOid oid_content IsLawful ⊥ oid_plain

-- numbers that were read are an object identifier
pub oid_here : (p ns : List ℕ) → numbers_from 0 true p ≡ Some ns → (ns ≡ [] → ⊥) → IsOid (arcs_in ns) p
oid_here p ns e n =
    let r = numbers-sound p 0 true ns (λ q. refl) (λ q. absurd cc) e in
    (by_index (arcs_in ns) (arcs_lawful ns r.0 n), ap (λ (x : List ℕ). x ++ p) (sym high-zero) ∙ r.1 ∙ ap (flat_map septets) (sym (numbers_back ns)))

pub no_oid : (p : List ℕ) → numbers_from 0 true p ≡ None → (v : List ℕ) → IsOid v p → ⊥
no_oid p e v h = none_not _ (sym e ∙ oid_parsed v p h)

-- bytes that spell no number are none
pub no_bytes : (p : List ℕ) → numbers_from 0 true p ≡ Some [] → p ≡ []
no_bytes p e = let r = numbers-sound p 0 true [] (λ q. refl) (λ q. absurd cc) e in ap (λ (x : List ℕ). x ++ p) (sym high-zero) ∙ r.1

pub not_none : (p ns : List ℕ) → numbers_from 0 true p ≡ Some ns → numbers_from 0 true p ≡ None → ⊥
not_none p ns e f = none_not _ (sym f ∙ e)

pub no_oid_of_none : (v : List ℕ) → IsOid v [] → ⊥
no_oid_of_none v h = numbers_some v (by_cases v h.0) (some_is _ _ (sym (oid_parsed v [] h) ∙ numbers-none))

-- the first two arcs are one number
pub spelled_split : (v : List ℕ) → IsLawful v → spelled_numbers v ≡ (40 * get_or v 0 0 + get_or v 1 0) ∷ drop 2 v
spelled_split [] h = absurd (let l = h.len in omega (arith, l))
spelled_split (a ∷ []) h = absurd (let l = h.len in omega (arith, l))
spelled_split (a ∷ b ∷ r) h = refl
