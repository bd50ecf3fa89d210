-- The bytes of an input that a span covers.
use Rattle.std.specs.Prelude.{◌≡◌, ℕ, ◌+◌, ◌≤◌, List, ◌++◌, length, Option, Some, None}
use Rattle.std.specs.Borrow.{Bor}

-- the slice stands behind so many bytes, and ends before so many
pub record Covers (string : List ℕ) (start end : ℕ) (slice : List ℕ) : Type 0 where
  pub before : List ℕ
  pub after : List ℕ
  pub bytes : string ≡ before ++ (slice ++ after)
  pub from : start ≡ length before
  pub to : end ≡ length before + length slice

-- there, or the span doesn't lie in the string
abbrev pub SliceAt : List ℕ → ℕ → ℕ → Option (Bor (List ℕ)) → Type 0
SliceAt string start end (Some slice) = Covers string start end slice.now
SliceAt string start end None = start ≤ end → end ≤ length string → ⊥
