-- A list of fields, each under one of several tags: the last under a tag, and whether the tags ascend.
use Rattle.std.specs.Prelude.{◌≡◌, ℕ, ◌+◌, ◌<◌, ◌&&◌, Bool, true, nat_le, List, [], ◌∷◌, ◌++◌, Option, Some, None}

-- the later one where it is there, else the earlier one
abbrev pub later : {V : Type 0} → Option V → Option V → Option V
later (Some v) earlier = Some v
later None earlier = earlier

-- the last of a list, where under says what a field has under the tag
abbrev pub last : {H V : Type 0} → (H → Option V) → List H → Option V
last under [] = None
last under (h ∷ hs) = later (last under hs) (under h)

-- the first tag's number is least or more, and each is above the one before it
abbrev pub ascends_from : {H : Type 0} → (H → ℕ) → ℕ → List H → Bool
ascends_from number least [] = true
ascends_from number least (h ∷ hs) = nat_le least (number h) && ascends_from number (number h + 1) hs

-- the tags' numbers are strictly ascending
abbrev pub ascends : {H : Type 0} → (H → ℕ) → List H → Bool
ascends number hs = ascends_from number 0 hs

-- each field's number is below that of the field behind it
abbrev pub NeighboursAscend : {H : Type 0} → (H → ℕ) → List H → Type 0
NeighboursAscend {H} number hs = (before after : List H) (a b : H) → hs ≡ before ++ a ∷ b ∷ after → number a < number b
