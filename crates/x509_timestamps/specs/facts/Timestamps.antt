-- What is read of a timestamp is what was written, and what was written is read again.
use Rattle.std.proofs.Common.{◌≡◌, ℕ, zero, suc, ◌<◌, ◌≤◌, ◌^◌, Bool, true, false, cond, ltb, eqb, List, [], ◌∷◌, ◌++◌, length, take, drop, Option, Some, None, refl, sym, ap, subst, ◌∙◌, arith, inl, inr}
use Rattle.std.specs.Prelude.{MatchOption}
use Rattle.std.specs.Int.{w64, to_be_bytes, from_be_bytes}
use Rattle.std.proofs.lemmas.Bool.{cases_lt, eqb-true, ltb-false, le-ltb}
use Rattle.std.proofs.lemmas.List.{append-nil, nil_from_length, take_at, drop_at, take-append-drop, length-append, length-take, length-drop, get_or-take, get_or_past}
use Rattle.std.proofs.lemmas.Nat.{be_bytes_8, from_be_bytes-to_be_bytes_8}
use Rattle.x509_timestamps.specs.Timestamps.{Entry, IsTimestamp, timestamp_bytes, vector, IsVector}
use Rattle.x509_timestamps.specs.Reading.{◌>>=◌, Gives, vector_at, signed_at, body_at, timestamp_at}
use Rattle.x509_timestamps.specs.Views.{view}
use Rattle.x509_timestamps.specs.declared.timestamp.Timestamp.{Timestamp}
use Rattle.x509_timestamps.specs.facts.Vectors.{IsBytes, bytes-drop, no_some, bound, guard_ended, vector_takes, vector_again}

-- what is written behind the version
abbrev behind : Entry → List ℕ
behind t = t.log_id ++ (to_be_bytes w64 t.time ++ (vector t.extensions ++ (t.hash ∷ t.signature_kind ∷ vector t.signature)))

signed_again : (t : Entry) → signed_at t.log_id t.time t.extensions (t.hash ∷ t.signature_kind ∷ vector t.signature) ≡ Some t
unfolding signed_at
signed_again t =
    let read : vector_at (vector t.signature) ≡ Some (t.signature, []) = ap vector_at (sym (append-nil (vector t.signature))) ∙ vector_again t.signature [] in
    rw read refl

body_of : (id time tail : List ℕ) (n : ℕ) → length id ≡ 32 → length time ≡ 8 → from_be_bytes w64 time ≡ n → body_at (id ++ (time ++ tail)) ≡ (vector_at tail >>= λ e. signed_at id n e.0 e.1)
unfolding body_at
body_of id time tail n is32 is8 is =
    let long : ltb (length (id ++ (time ++ tail))) 40 ≡ false = le-ltb _ _ (omega (arith, length-append id (time ++ tail), length-append time tail)) in
    let first : take 32 (id ++ (time ++ tail)) ≡ id = take_at id (time ++ tail) 32 is32 in
    let rest : drop 32 (id ++ (time ++ tail)) ≡ time ++ tail = drop_at id (time ++ tail) 32 is32 in
    rw (long, first, rest, take_at time tail 8 is8, drop_at time tail 8 is8, is) refl

body_again : (t : Entry) → IsTimestamp t → body_at (behind t) ≡ Some t
body_again t fits =
    let end = t.hash ∷ t.signature_kind ∷ vector t.signature in
    let read : (vector_at (vector t.extensions ++ end) >>= λ e. signed_at t.log_id t.time e.0 e.1) ≡ Some t = rw (vector_again t.extensions end) (signed_again t) in
    body_of t.log_id (to_be_bytes w64 t.time) (vector t.extensions ++ end) t.time fits.log_id refl (from_be_bytes-to_be_bytes_8 t.time fits.time) ∙ read

-- the same where a vector is known to stand there, and where none stands
pub body_read : (bytes id rest : List ℕ) (n : ℕ) (v more : List ℕ) → 40 ≤ length bytes → id ≡ take 32 bytes → rest ≡ drop 8 (drop 32 bytes) → n ≡ from_be_bytes w64 (take 8 (drop 32 bytes)) → vector_at rest ≡ Some (v, more) → body_at bytes ≡ signed_at id n v more
unfolding body_at
body_read bytes id rest n v more long is rest-is n-is e = rw (le-ltb _ _ long, ← rest-is, e, ← is, ← n-is) refl

pub body_none : (bytes rest : List ℕ) → 40 ≤ length bytes → rest ≡ drop 8 (drop 32 bytes) → vector_at rest ≡ None → body_at bytes ≡ None
unfolding body_at
body_none bytes rest long rest-is e = rw (le-ltb _ _ long, ← rest-is, e) refl

pub timestamp_again : (t : Entry) → IsTimestamp t → timestamp_at (timestamp_bytes t) ≡ Some t
unfolding timestamp_at
timestamp_again t fits = body_again t fits

-- what the end of a timestamp says
pub record IsSigned (log_id : List ℕ) (time : ℕ) (extensions bytes : List ℕ) (t : Entry) : Type 0 where
  pub log : log_id ≡ t.log_id
  pub when : time ≡ t.time
  pub with : extensions ≡ t.extensions
  pub parts : bytes ≡ t.hash ∷ t.signature_kind ∷ vector t.signature
  pub fits : IsVector t.signature

guard_first : {A : Type 0} (b : Bool) (r : Option A) (y : A) → cond b None r ≡ Some y → (b ≡ false) × (r ≡ Some y)
guard_first true r y e = absurd cc
guard_first false r y e = (refl, e)

signed_takes : (log_id : List ℕ) (time : ℕ) (extensions bytes : List ℕ) (t : Entry) → IsBytes bytes → signed_at log_id time extensions bytes ≡ Some t → IsSigned log_id time extensions bytes t
unfolding signed_at
signed_takes log_id time extensions [] t fits e = absurd cc
signed_takes log_id time extensions (hash ∷ []) t fits e = absurd cc
signed_takes log_id time extensions (hash ∷ kind ∷ rest) t fits e =
    let made : List ℕ → Entry = λ s. record { log_id = log_id; time = time; extensions = extensions; hash = hash; signature_kind = kind; signature = s } in
    let b = bound (vector_at rest) (λ s. cond (eqb (length s.1) 0) (Some (made s.0)) None) t e in
    let g = guard_ended (eqb (length b.0.1) 0) (made b.0.0) t b.2 in
    let nothing : b.0.1 ≡ [] = nil_from_length b.0.1 (eqb-true _ _ g.0) in
    let v = vector_takes rest b.0 (λ i. fits (suc (suc i))) b.1 in
    let whole : rest ≡ vector b.0.0 = v.parts ∙ ap (λ (r : List ℕ). vector b.0.0 ++ r) nothing ∙ append-nil (vector b.0.0) in
    subst (λ (y : Entry). IsSigned log_id time extensions (hash ∷ kind ∷ rest) y) g.1 (record { log = refl; when = refl; with = refl; parts = ap (λ (r : List ℕ). hash ∷ kind ∷ r) whole; fits = v.fits })

bytes-take : (n : ℕ) (bytes : List ℕ) → IsBytes bytes → IsBytes (take n bytes)
bytes-take n bytes h i =
    elim (cases_lt i n) [
      | inl lt ↦ rw (get_or-take n bytes i 0 lt) (h i)
      | inr le ↦ rw (get_or_past (take n bytes) i 0 (omega (arith, length-take n bytes))) (omega arith)
    ]

body_takes : (bytes : List ℕ) (t : Entry) → IsBytes bytes → body_at bytes ≡ Some t → IsTimestamp t × (bytes ≡ behind t)
unfolding body_at
body_takes bytes t fits e =
    let when = take 8 (drop 32 bytes) in
    let g = guard_first (ltb (length bytes) 40) (vector_at (drop 8 (drop 32 bytes)) >>= λ x. signed_at (take 32 bytes) (from_be_bytes w64 when) x.0 x.1) t e in
    let long : 40 ≤ length bytes = ltb-false _ _ g.0 in
    let b = bound (vector_at (drop 8 (drop 32 bytes))) (λ x. signed_at (take 32 bytes) (from_be_bytes w64 when) x.0 x.1) t g.1 in
    let v = vector_takes (drop 8 (drop 32 bytes)) b.0 (bytes-drop 8 (drop 32 bytes) (bytes-drop 32 bytes fits)) b.1 in
    let s = signed_takes (take 32 bytes) (from_be_bytes w64 when) b.0.0 b.0.1 t v.rest_fits b.2 in
    let eight : length when ≡ 8 = omega (arith, length-take 8 (drop 32 bytes), length-drop 32 bytes) in
    let small : IsBytes when = bytes-take 8 (drop 32 bytes) (bytes-drop 32 bytes fits) in
    let back : to_be_bytes w64 t.time ≡ when = be_bytes_8 when t.time eight small (sym s.when) in
    let below : from_be_bytes w64 when < 2 ^ 64 = omega (arith, small 0, small 1, small 2, small 3, small 4, small 5, small 6, small 7) in
    let end : List ℕ = vector t.extensions ++ (t.hash ∷ t.signature_kind ∷ vector t.signature) in
    let tail : drop 8 (drop 32 bytes) ≡ vector t.extensions ++ (t.hash ∷ t.signature_kind ∷ vector t.signature) = rw (← s.with, ← s.parts) v.parts in
    let halves : bytes ≡ take 32 bytes ++ (when ++ drop 8 (drop 32 bytes)) = sym (ap (λ (r : List ℕ). take 32 bytes ++ r) (take-append-drop 8 (drop 32 bytes)) ∙ take-append-drop 32 bytes) in (
      record { log_id = rw (← s.log) (omega (arith, length-take 32 bytes)); time = rw (← s.when) below; extensions = rw (← s.with) v.fits; signature = s.fits },
      halves
          ∙ ap (λ (r : List ℕ). take 32 bytes ++ (when ++ r)) tail
          ∙ ap (λ (r : List ℕ). take 32 bytes ++ (r ++ end)) (sym back)
          ∙ ap (λ (r : List ℕ). r ++ (to_be_bytes w64 t.time ++ end)) s.log,
    )

pub timestamp_takes : (bytes : List ℕ) (t : Entry) → IsBytes bytes → timestamp_at bytes ≡ Some t → IsTimestamp t × (bytes ≡ timestamp_bytes t)
unfolding timestamp_at
timestamp_takes [] t fits e = absurd cc
timestamp_takes (zero ∷ rest) t fits e =
    let b = body_takes rest t (λ i. fits (suc i)) e in
    (b.0, ap (λ (r : List ℕ). 0 ∷ r) b.1)
timestamp_takes (suc version ∷ rest) t fits e = absurd cc

pub is_exact : (bytes : List ℕ) (r : Option Timestamp) → IsBytes bytes → Gives view r (timestamp_at bytes) → MatchOption r ((t : Entry) → IsTimestamp t → bytes ≡ timestamp_bytes t → ⊥) (λ t. IsTimestamp (view t) × (bytes ≡ timestamp_bytes (view t)))
is_exact bytes (Some t) fits given = timestamp_takes bytes (view t) fits given
is_exact bytes None fits given = λ t h e. no_some t (sym (ap timestamp_at e ∙ timestamp_again t h) ∙ given)
