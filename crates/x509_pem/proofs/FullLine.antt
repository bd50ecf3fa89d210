-- Groups of symbols one behind the other.
use Rattle.std.proofs.Common.{◌≡◌, ℕ, zero, suc, ◌+◌, ◌-◌, ◌*◌, ◌%◌, ◌<◌, ◌≤◌, List, [], ◌∷◌, ◌++◌, take, length, replicate, slice_index, slice_set, refl, sym, ap, ◌∙◌, arith, inl, inr}
use Rattle.std.proofs.lemmas.Bool.{cases_eq}
use Rattle.std.proofs.lemmas.List.{append_assoc, append-nil, get_or-set_same, get_or-set_other, take_more, take_more_set, length-set, length-take-le, take_all}
use Rattle.base64.specs.Rfc4648.{encode_group, encode_symbols}
use Rattle.base64.specs.Engines.{standard}
use Rattle.base64.specs.GeneralPurpose.{IsBytes, encode_of, engine_symbols, engine_padding}
use Rattle.x509_pem.specs.Group.{DecodedTo}
use Rattle.base64.proofs.Canonical.{encode_symbols-append}

-- bytes behind bytes are bytes
pub bytes_append : (a b : List ℕ) → IsBytes a → IsBytes b → IsBytes (a ++ b)
bytes_append [] b ha hb i = hb i
bytes_append (x ∷ a) b ha hb zero = ha 0
bytes_append (x ∷ a) b ha hb (suc i) = bytes_append a b (λ k. ha (suc k)) hb i

-- four more items
take_four : (s : List ℕ) (i : ℕ) → i + 4 ≤ length s
    → take (i + 4) s ≡ take i s ++ slice_index s i ∷ slice_index s (i + 1) ∷ slice_index s (i + 2) ∷ slice_index s (i + 3) ∷ []
take_four s i h =
    let a : take (i + 1) s ≡ take i s ++ slice_index s i ∷ [] = take_more s i 0 (omega arith) in
    let b : take (i + 1 + 1) s ≡ take (i + 1) s ++ slice_index s (i + 1) ∷ [] = take_more s (i + 1) 0 (omega arith) in
    let c : take (i + 1 + 1 + 1) s ≡ take (i + 1 + 1) s ++ slice_index s (i + 1 + 1) ∷ [] = take_more s (i + 1 + 1) 0 (omega arith) in
    let d : take (i + 1 + 1 + 1 + 1) s ≡ take (i + 1 + 1 + 1) s ++ slice_index s (i + 1 + 1 + 1) ∷ [] = take_more s (i + 1 + 1 + 1) 0 (omega arith) in
    let two : i + 1 + 1 ≡ i + 2 = omega arith in
    let three : i + 1 + 1 + 1 ≡ i + 3 = omega arith in
    let four : i + 1 + 1 + 1 + 1 ≡ i + 4 = omega arith in
    rw (← four, d, c, b, a) (simp append_assoc (rw (three, two) refl))

-- three items that were written
take_three : (s : List ℕ) (i a b c : ℕ) → i + 3 ≤ length s
    → take (i + 3) (slice_set (slice_set (slice_set s i a) (i + 1) b) (i + 2) c) ≡ take i s ++ a ∷ b ∷ c ∷ []
take_three s i a b c h =
    let s1 : List ℕ = slice_set s i a in
    let s2 : List ℕ = slice_set s1 (i + 1) b in
    let n1 : length s1 ≡ length s = length-set s i a in
    let n2 : length s2 ≡ length s1 = length-set s1 (i + 1) b in
    let x : take (i + 1) s1 ≡ take i s ++ a ∷ [] = take_more_set s i a (omega arith) in
    let y : take (i + 1 + 1) s2 ≡ take (i + 1) s1 ++ b ∷ [] = take_more_set s1 (i + 1) b (omega arith) in
    let z : take (i + 2 + 1) (slice_set s2 (i + 2) c) ≡ take (i + 2) s2 ++ c ∷ [] = take_more_set s2 (i + 2) c (omega arith) in
    let two : i + 1 + 1 ≡ i + 2 = omega arith in
    let three : i + 2 + 1 ≡ i + 3 = omega arith in
    ap (λ n. take n (slice_set s2 (i + 2) c)) (sym three) ∙ z
    ∙ ap (λ n. take n s2 ++ c ∷ []) (sym two) ∙ ap (λ l. l ++ c ∷ []) (y ∙ ap (λ l. l ++ b ∷ []) x)
    ∙ ap (λ l. l ++ c ∷ []) (append_assoc (take i s) (a ∷ []) (b ∷ []))
    ∙ append_assoc (take i s) (a ∷ b ∷ []) (c ∷ [])

bytes_set : (bytes : List ℕ) (i x : ℕ) → i < length bytes → IsBytes bytes → x < 256 → IsBytes (slice_set bytes i x)
bytes_set bytes i x fits all below k = elim (cases_eq k i) [
  | inl same ↦ omega (arith, ap (λ n. slice_index (slice_set bytes i x) n) same, get_or-set_same bytes i x 0 fits)
  | inr other ↦ omega (arith, get_or-set_other bytes i k x 0 other, all k)
]

zeros : (n : ℕ) → IsBytes (replicate n 0)
zeros zero i = omega arith
zeros (suc n) zero = omega arith
zeros (suc n) (suc i) = zeros n i

pub groups_none : (line : List ℕ) → DecodedTo line (replicate 48 0) 0
unfolding encode_symbols
groups_none line = (refl, zeros 48)

pub groups_more : (line bytes : List ℕ) (g a b c : ℕ) → length line ≡ 64 → length bytes ≡ 48 → g < 16 → DecodedTo line bytes g
    → a < 256 → b < 256 → c < 256 → encode_group (engine_symbols standard) a b c
    ≡ slice_index line (4 * g) ∷ slice_index line (4 * g + 1) ∷ slice_index line (4 * g + 2) ∷ slice_index line (4 * g + 3) ∷ []
    → DecodedTo line (slice_set (slice_set (slice_set bytes (3 * g) a) (3 * g + 1) b) (3 * g + 2) c) (g + 1)
unfolding encode_symbols
groups_more line bytes g a b c fits room below before la lb lc group =
    let t : List ℕ = engine_symbols standard in
    let one : List ℕ = slice_set bytes (3 * g) a in
    let two : List ℕ = slice_set one (3 * g + 1) b in
    let n1 : length one ≡ 48 = length-set bytes (3 * g) a ∙ room in
    let n2 : length two ≡ 48 = length-set one (3 * g + 1) b ∙ n1 in
    let o1 : IsBytes one = bytes_set bytes (3 * g) a (omega (arith, room)) before.1 la in
    let o2 : IsBytes two = bytes_set one (3 * g + 1) b (omega (arith, n1)) o1 lb in
    let four : 4 * (g + 1) ≡ 4 * g + 4 = omega arith in
    let three : 3 * (g + 1) ≡ 3 * g + 3 = omega arith in
    let whole : length (take (3 * g) bytes) % 3 ≡ 0 = omega (arith, length-take-le (3 * g) bytes (omega (arith, room))) in (
      rw (
        four,
        three,
        take_four line (4 * g) (omega (arith, fits)),
        take_three bytes (3 * g) a b c (omega (arith, room)),
        before.0,
        encode_symbols-append t (take (3 * g) bytes) (a ∷ b ∷ c ∷ []) whole,
      )
          (ap (λ l. encode_symbols t (take (3 * g) bytes) ++ l) (sym group ∙ sym (append-nil (encode_group t a b c)))),
      bytes_set two (3 * g + 2) c (omega (arith, n2)) o2 lc,
    )

-- bytes in a whole number of groups have no padding
pub encode_of_whole : (bytes : List ℕ) → length bytes % 3 ≡ 0 → encode_of standard bytes ≡ encode_symbols (engine_symbols standard) bytes
encode_of_whole bytes whole =
    let t : List ℕ = engine_symbols standard in
    let none : (3 - length bytes % 3) % 3 ≡ 0 = omega arith in
    ap (λ n. encode_symbols t bytes ++ replicate n (engine_padding standard)) none ∙ append-nil (encode_symbols t bytes)

pub line_is : (line bytes : List ℕ) (g : ℕ) → g ≡ 16 → length line ≡ 64 → length bytes ≡ 48 → DecodedTo line bytes g
    → (line ≡ encode_of standard bytes) × (length bytes ≡ 48) × IsBytes bytes
line_is line bytes g at_end fits room is =
    let t : List ℕ = engine_symbols standard in
    let all : take (4 * g) line ≡ line = take_all (4 * g) line (omega (arith, fits)) in
    let each : take (3 * g) bytes ≡ bytes = take_all (3 * g) bytes (omega (arith, room)) in
    (sym all ∙ is.0 ∙ ap (λ l. encode_symbols t l) each ∙ sym (encode_of_whole bytes (omega (arith, room))), room, is.1)
