-- The last bit of a usage.
use Rattle.std.proofs.Common.{◌≡◌, ℕ, suc, ◌+◌, ◌-◌, ◌*◌, ◌/◌, ◌%◌, ◌<◌, List, Bool, true, false, ◌++◌, length, replicate, get_or, ap, sym, ◌∙◌, arith, length-append}
use Rattle.std.proofs.lemmas.List.{get_or_append_left, get_or_default, get_or_past, length-replicate}
use Rattle.x509_der.specs.BitString.{bits_of, has_bit, unused_bits}
use Rattle.x509_der.specs.facts.BitEdits.{bit_here}
use Rattle.x509_der.specs.facts.BitString.{length-bits_of}

-- bytes hold the bits and the unused ones
sizes : (v : List Bool) (s : List ℕ) → bits_of s ≡ v ++ replicate (unused_bits (length v)) false → 8 * length s ≡ length v + unused_bits (length v)
sizes v s e = sym (length-bits_of s) ∙ ap length e ∙ length-append v (replicate (unused_bits (length v)) false) ∙ ap (λ k. length v + k) (length-replicate (unused_bits (length v)) false)

-- the last of them stands in the last byte, before the unused ones
pub last_bit : (v : List Bool) (s : List ℕ) (n : ℕ) → bits_of s ≡ v ++ replicate (unused_bits (length v)) false → suc n ≡ length s → has_bit (get_or s n 0) (unused_bits (length v)) ≡ get_or v (length v - 1) true
last_bit v s n e l =
    let size = sizes v s e in
    let some : length v - 1 < length v = omega (arith, size, l) in
    let byte : (length v - 1) / 8 ≡ n = omega (arith, size, l) in
    let place : 7 - (length v - 1) % 8 ≡ unused_bits (length v) = omega (arith, size, l) in
    ap (λ k. has_bit (get_or s k 0) (unused_bits (length v))) (sym byte)
    ∙ ap (has_bit (get_or s ((length v - 1) / 8) 0)) (sym place)
    ∙ bit_here s (length v - 1) (omega (arith, byte, l))
    ∙ ap (λ x. get_or x (length v - 1) false) e
    ∙ get_or_append_left v (replicate (unused_bits (length v)) false) false (length v - 1) some
    ∙ get_or_default v (length v - 1) false true some

-- there is none where there are no bytes
pub no_bit : (v : List Bool) (s : List ℕ) → bits_of s ≡ v ++ replicate (unused_bits (length v)) false → length s ≡ 0 → get_or v (length v - 1) true ≡ true
no_bit v s e l = get_or_past v (length v - 1) true (omega (arith, sizes v s e, l))
