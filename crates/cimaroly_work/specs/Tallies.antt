-- What is counted.
use Rattle.std.specs.Prelude.{◌≡◌, ℕ, ◌+◌, ◌-◌, ◌^◌, min}
use Rattle.cimaroly_work.specs.declared.status.Tally.{Tally}

-- a count stays at the greatest number that it can tell
abbrev pub up_to_most : ℕ → ℕ
up_to_most n = min n (2 ^ 64 - 1)

-- the five counts of a tally
pub record Counts (t : Tally) (der deviating refused passed_over outdated : ℕ) : Type 0 where
  pub der_is : t.der ≡ der
  pub deviating_is : t.deviating ≡ deviating
  pub refused_is : t.refused ≡ refused
  pub passed_over_is : t.passed_over ≡ passed_over
  pub outdated_is : t.outdated ≡ outdated

-- of structures that were searched for what is wrong in their extensions: how many have malformed ones, and how many have
-- ones with deviations
pub record Searched (t : Tally) (malformed deviating : ℕ) : Type 0 where
  pub malformed_is : t.malformed ≡ malformed
  pub deviating_is : t.deviating_inside ≡ deviating
