-- Which element begins a string.
use Rattle.std.proofs.Common.{◌≡◌, ℕ, ◌≤◌, ◌<◌, ◌%◌, ◌^◌, true, false, not, ◌==◌, List, [], ◌∷◌, ◌++◌, length, take, drop, get_or, ◌⊎◌, inl, inr, refl, ap, sym, ◌∙◌, arith, rules, append_assoc, length-append, length-drop}
use Rattle.std.proofs.lemmas.List.{take-append-drop, length-take-le}
use Rattle.std.proofs.lemmas.Bool.Decides.{nat_tests}
use Rattle.x509_der_parts.specs.Reading.{is_tag}
use Rattle.x509_der_parts.specs.Element.{digits, element}
use Rattle.x509_der_parts.specs.facts.LengthDigits.{digits_one}
use Rattle.x509_der_parts.specs.Reading.{IsFirst}
use Rattle.x509_der_parts.specs.FirstFault.{HighTag, NoDigits, CutShort, FirstFault}
use Rattle.x509_der_parts.specs.declared.errors.ReadError.TheVariants.{Truncated}

first_cons : (bytes : List ℕ) → 1 ≤ length bytes → bytes ≡ get_or bytes 0 0 ∷ drop 1 bytes
first_cons [] n = absurd (omega arith)
first_cons (b ∷ bytes) n = refl

pub no_first_empty : (bytes : List ℕ) → length bytes < 1 → (t : ℕ) (c q : List ℕ) → is_tag t ≡ true → bytes ≡ element t c ++ q → ⊥
unfolding element
no_first_empty [] n t c q i e = cc
no_first_empty (b ∷ bytes) n t c q i e = omega arith

same_tag : (b t : ℕ) (after c q : List ℕ) → b ∷ after ≡ element t c ++ q → (b ≡ t) × (after ≡ digits (length c) ++ (c ++ q))
unfolding element
same_tag b t after c q e = (cc, let e2 : after ≡ (digits (length c) ++ c) ++ q = cc in e2 ∙ append_assoc (digits (length c)) c q)

long_tag : (t : ℕ) → t % 32 ≡ 31 → is_tag t ≡ true → ⊥
long_tag t e i = let e2 : is_tag t ≡ is_tag 31 = ap (λ x. not (x == 31)) e in cc

pub no_first_tag : (bytes : List ℕ) → 1 ≤ length bytes → get_or bytes 0 0 % 32 ≡ 31 → (t : ℕ) (c q : List ℕ) → is_tag t ≡ true → bytes ≡ element t c ++ q → ⊥
no_first_tag bytes n m t c q i e =
    let s = same_tag (get_or bytes 0 0) t (drop 1 bytes) c q (sym (first_cons bytes n) ∙ e) in
    long_tag t (ap (λ x. x % 32) (sym s.0) ∙ m) i

pub no_first_length : (bytes : List ℕ) → length bytes < 2 ^ 64 → 1 ≤ length bytes → ((n : ℕ) (q : List ℕ) → n < 2 ^ 64 → drop 1 bytes ≡ digits n ++ q → ⊥) → (t : ℕ) (c q : List ℕ) → is_tag t ≡ true → bytes ≡ element t c ++ q → ⊥
no_first_length bytes r n none t c q i e =
    let s = same_tag (get_or bytes 0 0) t (drop 1 bytes) c q (sym (first_cons bytes n) ∙ e) in
    none (length c) (c ++ q) (omega (arith, ap length s.1, length-append (digits (length c)) (c ++ q), length-append c q, length-drop 1 bytes)) s.1

pub no_first_short : (bytes : List ℕ) (n k : ℕ) → 1 ≤ length bytes → drop 1 bytes ≡ digits n ++ drop k (drop 1 bytes) → length (drop k (drop 1 bytes)) < n → (t : ℕ) (c q : List ℕ) → is_tag t ≡ true → bytes ≡ element t c ++ q → ⊥
no_first_short bytes n k l d short t c q i e =
    let s = same_tag (get_or bytes 0 0) t (drop 1 bytes) c q (sym (first_cons bytes l) ∙ e) in
    let o = digits_one n (length c) (drop k (drop 1 bytes)) (c ++ q) (sym d ∙ s.1) in
    omega (arith, o.0, ap length o.1, length-append c q)

not_long : (t : ℕ) → (t % 32 ≡ 31 → ⊥) → is_tag t ≡ true
not_long t n = search (rules, nat_tests)

pub is_first : (bytes : List ℕ) (n k : ℕ) → 1 ≤ length bytes → get_or bytes 0 0 < 256 → (get_or bytes 0 0 % 32 ≡ 31 → ⊥) → drop 1 bytes ≡ digits n ++ drop k (drop 1 bytes) → n ≤ length (drop k (drop 1 bytes)) → IsFirst bytes (get_or bytes 0 0) (take n (drop k (drop 1 bytes))) (drop n (drop k (drop 1 bytes)))
unfolding element
is_first bytes n k l b m d h =
    let rest = drop k (drop 1 bytes) in
    let len : length (take n rest) ≡ n = length-take-le n rest h in
    let e : digits (length (take n rest)) ++ (take n rest ++ drop n rest) ≡ digits n ++ rest = ap (λ x. digits x ++ (take n rest ++ drop n rest)) len ∙ ap (λ x. digits n ++ x) (take-append-drop n rest) in
    record {
      bytes = first_cons bytes l ∙ ap (λ x. get_or bytes 0 0 ∷ x) (d ∙ sym e ∙ sym (append_assoc (digits (length (take n rest))) (take n rest) (drop n rest)));
      tag = not_long (get_or bytes 0 0) m;
      byte = b;
    }

pub no_bytes : (bytes : List ℕ) → length bytes < 1 → FirstFault bytes Truncated
no_bytes [] n = inl refl
no_bytes (b ∷ bytes) n = absurd (omega arith)

pub high_tag : (bytes : List ℕ) → 1 ≤ length bytes → get_or bytes 0 0 % 32 ≡ 31 → HighTag bytes
high_tag bytes n m = record {
  tag = get_or bytes 0 0;
  rest = drop 1 bytes;
  bytes = first_cons bytes n;
  high = ap (λ x. not (x == 31)) m;
}

pub no_digits : (bytes : List ℕ) → 1 ≤ length bytes → (get_or bytes 0 0 % 32 ≡ 31 → ⊥) → ((n : ℕ) (q : List ℕ) → n < 2 ^ 64 → drop 1 bytes ≡ digits n ++ q → ⊥) → NoDigits bytes
no_digits bytes l m none = record {
  tag = get_or bytes 0 0;
  rest = drop 1 bytes;
  bytes = first_cons bytes l;
  low = not_long (get_or bytes 0 0) m;
  none = none;
}

pub cut_short : (bytes : List ℕ) (n k : ℕ) → 1 ≤ length bytes → (get_or bytes 0 0 % 32 ≡ 31 → ⊥) → drop 1 bytes ≡ digits n ++ drop k (drop 1 bytes) → length (drop k (drop 1 bytes)) < n → CutShort bytes
cut_short bytes n k l m d short = record {
  tag = get_or bytes 0 0;
  size = n;
  rest = drop k (drop 1 bytes);
  bytes = first_cons bytes l ∙ ap (λ x. get_or bytes 0 0 ∷ x) d;
  low = not_long (get_or bytes 0 0) m;
  short = short;
}
