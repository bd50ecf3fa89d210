-- The last byte of a content is the last digit of the last arc.
use Rattle.std.proofs.Common.{◌≡◌, ℕ, ◌+◌, ◌*◌, ◌-◌, ◌≤◌, ◌/◌, ◌%◌, suc, List, [], ◌∷◌, ◌++◌, length, get_or, ap, ◌∙◌, arith, length-append}
use Rattle.std.specs.List.{flat_map}
use Rattle.std.proofs.Math.Seq.{get_or-append_seam}
use Rattle.std.proofs.lemmas.List.{append-nil, get_or-append-add}
use Rattle.x509_der.specs.ObjectIdentifier.{high_digits, septets, oid_content}
use Rattle.x509_der.specs.facts.ObjectIdentifier.{septets_are, septets_length}

last_of_numbers : (n : ℕ) (ns : List ℕ) → get_or (flat_map septets (n ∷ ns)) (length (flat_map septets (n ∷ ns)) - 1) 0 ≡ get_or (n ∷ ns) (length ns) 0 % 128
last_of_numbers n [] =
    let h = high_digits (n / 128) in
    let e : flat_map septets (n ∷ []) ≡ h ++ (n % 128) ∷ [] = append-nil (septets n) ∙ septets_are n in
    let l : length (h ++ (n % 128) ∷ []) - 1 ≡ length h = omega (arith, length-append h ((n % 128) ∷ [])) in
    rw e (ap (λ k. get_or (h ++ (n % 128) ∷ []) k 0) l ∙ get_or-append_seam h (n % 128) [] 0)
last_of_numbers n (m ∷ ns) =
    let s = septets n in
    let f = flat_map septets (m ∷ ns) in
    let some : 1 ≤ length f = omega (arith, length-append (septets m) (flat_map septets ns), septets_length m) in
    let k : length (s ++ f) - 1 ≡ length s + (length f - 1) = omega (arith, length-append s f, some) in
    ap (λ j. get_or (s ++ f) j 0) k ∙ get_or-append-add s f (length f - 1) 0 ∙ last_of_numbers m ns

pub content_last : (v : List ℕ) → 3 ≤ length v → get_or (oid_content v) (length (oid_content v) - 1) 0 ≡ get_or v (length v - 1) 0 % 128
content_last [] h = absurd (omega (arith, h))
content_last (a ∷ []) h = absurd (omega (arith, h))
content_last (a ∷ b ∷ []) h = absurd (omega (arith, h))
content_last (a ∷ b ∷ c ∷ r) h =
    let k : suc (suc (length r)) ≡ length (a ∷ b ∷ c ∷ r) - 1 = omega arith in
    last_of_numbers (40 * a + b) (c ∷ r) ∙ ap (λ j. get_or (a ∷ b ∷ c ∷ r) j 0 % 128) k
