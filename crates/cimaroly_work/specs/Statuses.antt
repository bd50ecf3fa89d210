-- The exit statuses, and which of two is worse.
use Rattle.std.specs.Prelude.{◌≡◌, ◌≤◌, ◌⊎◌, ℕ}
use Rattle.cimaroly_work.specs.declared.status.Status.{Status}
use Rattle.cimaroly_work.specs.declared.status.Status.TheVariants.{Der, Deviations, Refused, Usage, Failed, OutOfMemory}

abbrev pub code_of : Status → ℕ
code_of Der = 0
code_of Refused = 1
code_of Usage = 2
code_of Deviations = 3
code_of Failed = 4
code_of OutOfMemory = 5

abbrev pub rank_of : Status → ℕ
rank_of Der = 0
rank_of Deviations = 1
rank_of Refused = 2
rank_of Usage = 3
rank_of Failed = 4
rank_of OutOfMemory = 5

-- of two, the one that weighs the more
pub record IsWorse (first second worse : Status) : Type 0 where
  pub one : (worse ≡ first) ⊎ (worse ≡ second)
  pub outweighs_first : rank_of first ≤ rank_of worse
  pub outweighs_second : rank_of second ≤ rank_of worse
