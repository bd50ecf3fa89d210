-- Whether a number is below 2^64.
use Rattle.std.proofs.Common.{◌≡◌, ℕ, ◌<◌, ◌≤◌, ◌^◌, true, false, nat_lt, List, refl, arith}
use Rattle.std.proofs.lemmas.Bool.Decides.{nat_tests}
use Rattle.x509_der.specs.Integer.{unsigned_value, is_within}

small_test : (n : ℕ) → n < 2 ^ 64 → nat_lt n 18446744073709551616 ≡ true
small_test n h = grind (arith, nat_tests)

large_test : (n : ℕ) → 2 ^ 64 ≤ n → nat_lt n 18446744073709551616 ≡ false
large_test n h = grind (arith, nat_tests)

pub within_small : (c : List ℕ) (n : ℕ) → n ≡ unsigned_value c → n < 2 ^ 64 → is_within c ≡ true
within_small c n e h = rw (← e, small_test n h) refl

pub within_large : (c : List ℕ) → 2 ^ 64 ≤ unsigned_value c → is_within c ≡ false
within_large c h = large_test (unsigned_value c) h
