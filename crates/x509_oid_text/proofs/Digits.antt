-- Digits that are written from the last on.
use Rattle.std.proofs.Common.{◌≡◌, ℕ, ◌+◌, ◌/◌, ◌%◌, ◌≤◌, ◌<◌, ◌^◌, List, [], ◌∷◌, ◌++◌, length, drop, set, sym, ap, ◌∙◌, arith, append-nil, append_assoc}
use Rattle.std.proofs.lemmas.List.{drop-set, drop_all, length-append, length-drop}
use Rattle.std.proofs.lemmas.Fmt.{decimal_step, decimal_digit, decimal_nonempty, length-decimal-le}
use Rattle.std.specs.Fmt.{decimal}

pub begun : (n : ℕ) (room : List ℕ) → length room ≡ 20 → decimal n ≡ decimal n ++ drop 20 room
begun n room size = sym (ap (λ x. decimal n ++ x) (drop_all 20 room (omega (arith, size))) ∙ append-nil (decimal n))

pub most : (n : ℕ) → n < 2 ^ 64 → length (decimal n) ≤ 20
most n small = length-decimal-le 20 n (omega arith) (omega arith) small

-- one digit more is written
pub one_more : (n rest at : ℕ) (room : List ℕ) → length room ≡ 20 → 10 ≤ rest → rest < 2 ^ 64 → at ≤ 19 →
    decimal n ≡ decimal rest ++ drop (at + 1) room →
    decimal n ≡ decimal (rest / 10) ++ drop at (set room at (48 + rest % 10))
one_more n rest at room size many small high written =
    written
    ∙ ap (λ x. x ++ drop (at + 1) room) (decimal_step rest many small)
    ∙ append_assoc (decimal (rest / 10)) ((48 + rest % 10) ∷ []) (drop (at + 1) room)
    ∙ ap (λ x. decimal (rest / 10) ++ x) (sym (drop-set room at (48 + rest % 10) (omega (arith, size))))

-- there is room for the digits that are left
pub shorter : (rest at : ℕ) → 10 ≤ rest → rest < 2 ^ 64 → length (decimal rest) ≤ at + 1 → length (decimal (rest / 10)) + 1 ≤ at + 1
shorter rest at many small low =
    omega (arith, low, ap length (decimal_step rest many small), length-append (decimal (rest / 10)) ((48 + rest % 10) ∷ []))

-- and for one at least
pub some : (rest at : ℕ) → 10 ≤ rest → rest < 2 ^ 64 → length (decimal rest) ≤ at + 1 → 1 ≤ at
some rest at many small low = omega (arith, shorter rest at many small low, decimal_nonempty (rest / 10) (omega arith))

-- the first digit is written
pub first : (n rest at : ℕ) (room : List ℕ) → length room ≡ 20 → rest < 10 → at ≤ 19 →
    decimal n ≡ decimal rest ++ drop (at + 1) room →
    drop at (set room at (48 + rest)) ≡ decimal n
first n rest at room size few high written =
    drop-set room at (48 + rest) (omega (arith, size)) ∙ sym (written ∙ ap (λ x. x ++ drop (at + 1) room) (decimal_digit rest few))

pub counted : (n rest at : ℕ) (room : List ℕ) → length room ≡ 20 → rest < 10 → at ≤ 19 →
    decimal n ≡ decimal rest ++ drop (at + 1) room → at + length (decimal n) ≡ 20
counted n rest at room size few high written =
    omega (arith, size, high, ap length written, length-append (decimal rest) (drop (at + 1) room), ap length (decimal_digit rest few), length-drop (at + 1) room)
