-- How many bits a number has.
use Rattle.std.specs.Prelude.{◌≡◌, ◌≢◌, ℕ, ◌*◌, ◌^◌, ◌<◌, ◌≤◌}

-- 0 has none, and another number n has the k for which 2^(k - 1) ≤ n < 2^k
pub record IsBitLength (n k : ℕ) : Type 0 where
  pub none : n ≡ 0 → k ≡ 0
  pub below : n < 2 ^ k
  pub highest : n ≢ 0 → 2 ^ k ≤ 2 * n
