-- A vector that is read is the one that was written, and what was written is read again.
use Rattle.std.proofs.Common.{◌≡◌, ℕ, suc, ◌+◌, ◌*◌, ◌/◌, ◌%◌, ◌<◌, ◌≤◌, Bool, true, false, cond, ltb, List, [], ◌∷◌, ◌++◌, length, get_or, take, drop, Option, Some, None, refl, sym, ap, subst, ◌∙◌, eqb, arith}
use Rattle.std.proofs.lemmas.Bool.{eqb-true, ltb-false, le-ltb}
use Rattle.std.proofs.lemmas.List.{append-nil, nil_from_length, take_at, drop_at, take-append-drop, length-append, length-take, get_or-drop}
use Rattle.x509_timestamps.specs.Timestamps.{vector, IsVector}
use Rattle.x509_timestamps.specs.Reading.{◌>>=◌, vector_at, whole_at}

abbrev pub IsBytes : List ℕ → Type 0
IsBytes bytes = (i : ℕ) → get_or bytes i 0 < 256

pub bytes-drop : (n : ℕ) (bytes : List ℕ) → IsBytes bytes → IsBytes (drop n bytes)
bytes-drop n bytes h i = rw get_or-drop (h (n + i))

-- a test that did not fail
pub guard : {A : Type 0} (b : Bool) (x y : A) → cond b None (Some x) ≡ Some y → (b ≡ false) × (x ≡ y)
guard true x y e = absurd cc
guard false x y e = (refl, cc)

abbrev pub found : {A : Type 0} → A → Option A
found x = Some x

pub no_some : {A : Type 0} (x : A) → found x ≡ None → ⊥
no_some x e = cc

pub found_is : {A : Type 0} (x y : A) → found x ≡ found y → x ≡ y
found_is x y e = cc

pub bound : {A B : Type 0} (r : Option A) (f : A → Option B) (y : B) → (r >>= f) ≡ Some y → (x : A) × (r ≡ Some x) × (f x ≡ Some y)
bound (Some x) f y e = (x, refl, e)
bound None f y e = absurd cc

-- what was taken from the front
pub record Takes (bytes : List ℕ) (x : List ℕ × List ℕ) : Type 0 where
  pub parts : bytes ≡ vector x.0 ++ x.1
  pub fits : IsVector x.0
  pub rest_fits : IsBytes x.1

pub vector_takes : (bytes : List ℕ) (x : List ℕ × List ℕ) → IsBytes bytes → vector_at bytes ≡ Some x → Takes bytes x
unfolding vector_at
vector_takes [] x fits e = absurd cc
vector_takes (high ∷ []) x fits e = absurd cc
vector_takes (high ∷ low ∷ rest) x fits e =
    let n = high * 256 + low in
    let g = guard (ltb (length rest) n) (take n rest, drop n rest) x e in
    let long : n ≤ length rest = ltb-false _ _ g.0 in
    let len : length (take n rest) ≡ n = omega (arith, length-take n rest) in
    let first : length (take n rest) / 256 ≡ high = rw len (omega (arith, fits 0, fits 1)) in
    let second : length (take n rest) % 256 ≡ low = rw len (omega (arith, fits 0, fits 1)) in
    let behind : IsBytes rest = λ i. fits (suc (suc i)) in
    let parts : high ∷ low ∷ rest ≡ vector (take n rest) ++ drop n rest = rw (first, second) (ap (λ (r : List ℕ). high ∷ low ∷ r) (sym (take-append-drop n rest))) in
    subst (λ (y : List ℕ × List ℕ). Takes (high ∷ low ∷ rest) y) g.1 (record { parts = parts; fits = omega (arith, len, fits 0, fits 1); rest_fits = bytes-drop n rest behind })

pub vector_again : (v rest : List ℕ) → vector_at (vector v ++ rest) ≡ Some (v, rest)
unfolding vector_at
vector_again v rest =
    let whole : length v / 256 * 256 + length v % 256 ≡ length v = omega arith in
    let long : ltb (length (v ++ rest)) (length v) ≡ false = le-ltb _ _ (omega (arith, length-append v rest)) in
    rw (whole, long, take_at v rest (length v) refl, drop_at v rest (length v) refl) refl

pub guard_ended : {A : Type 0} (b : Bool) (x y : A) → cond b (Some x) None ≡ Some y → (b ≡ true) × (x ≡ y)
guard_ended true x y e = (refl, cc)
guard_ended false x y e = absurd cc

-- the whole of the bytes was taken
pub record TakesWhole (bytes v : List ℕ) : Type 0 where
  pub parts : bytes ≡ vector v
  pub fits : IsVector v
  pub read : vector_at bytes ≡ Some (v, [])

pub whole_takes : (bytes v : List ℕ) → IsBytes bytes → whole_at bytes ≡ Some v → TakesWhole bytes v
unfolding whole_at
whole_takes bytes v fits e =
    let b = bound (vector_at bytes) (λ x. cond (eqb (length x.1) 0) (Some x.0) None) v e in
    let g = guard_ended (eqb (length b.0.1) 0) b.0.0 v b.2 in
    let nothing : b.0.1 ≡ [] = nil_from_length b.0.1 (eqb-true _ _ g.0) in
    let t = vector_takes bytes b.0 fits b.1 in
    let parts : bytes ≡ vector b.0.0 = t.parts ∙ ap (λ (r : List ℕ). vector b.0.0 ++ r) nothing ∙ append-nil (vector b.0.0) in
    let read : vector_at bytes ≡ Some (b.0.0, []) = b.1 ∙ ap (λ (r : List ℕ). Some (b.0.0, r)) nothing in
    subst (λ (y : List ℕ). TakesWhole bytes y) g.1 (record { parts = parts; fits = t.fits; read = read })

pub whole_again : (v : List ℕ) → whole_at (vector v) ≡ Some v
unfolding whole_at
whole_again v =
    let read : vector_at (vector v) ≡ Some (v, []) = ap vector_at (sym (append-nil (vector v))) ∙ vector_again v [] in
    rw read refl

-- a suffix of bytes is bytes
pub bytes-behind : (front rest : List ℕ) → IsBytes (front ++ rest) → IsBytes rest
bytes-behind [] rest h = h
bytes-behind (b ∷ front) rest h = bytes-behind front rest (λ i. h (suc i))
