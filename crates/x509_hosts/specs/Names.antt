-- DNS names of hosts (RFC 1034, 3.5; RFC 1123, 2.1), and which names that a certificate presents are for them (RFC 9525, 6.3).
use Rattle.std.specs.Prelude.{◌≡◌, ◌≢◌, ℕ, ◌-◌, ◌≤◌, ◌<◌, ◌⊎◌, ◌==◌, ◌||◌, Bool, IsTrue, List, [], ◌∷◌, length, map, slice_index}
use Rattle.std.specs.Char.{is_ascii_alphanumeric, is_ascii_digit, to_ascii_lowercase}
use Rattle.std.specs.List.{after_first, list_all, position_or_len, slice_split}

abbrev pub is_dot : ℕ → Bool
is_dot b = b == 46

-- letters, digits, hyphens and underscores
abbrev pub is_label_byte : ℕ → Bool
is_label_byte b = is_ascii_alphanumeric b || (b == 45) || (b == 95)

-- 1 to 63 of them, with no hyphen at either end
pub record IsLabel (label : List ℕ) : Type 0 where
  pub some : 0 < length label
  pub most : length label ≤ 63
  pub first : slice_index label 0 ≢ 45
  pub last : slice_index label (length label - 1) ≢ 45
  pub each : IsTrue (list_all is_label_byte label)

-- each is a label, and the last isn't digits alone, so that no address is a name
abbrev pub AreLabels : List (List ℕ) → Type 0
AreLabels [] = ⊥
AreLabels (last ∷ []) = IsLabel last × (IsTrue (list_all is_ascii_digit last) → ⊥)
AreLabels (label ∷ next ∷ more) = IsLabel label × AreLabels (next ∷ more)

-- what stands between dots
abbrev pub labels : List ℕ → List (List ℕ)
labels name = slice_split is_dot name

-- at most 253 bytes, as it is written
abbrev pub IsHostName : List ℕ → Type 0
IsHostName name = (length name ≤ 253) × AreLabels (labels name)

-- letters of ASCII are the same in both cases (RFC 4343)
abbrev pub IsSame : List ℕ → List ℕ → Type 0
IsSame x y = map to_ascii_lowercase x ≡ map to_ascii_lowercase y

-- a wildcard is the whole of the left-most label, and stands for one label: others follow, and are the same
pub record IsWildFor (presented host : List ℕ) : Type 0 where
  pub rest : List ℕ
  pub wild : presented ≡ 42 ∷ 46 ∷ rest
  pub more : position_or_len is_dot host < length host
  pub same : IsSame rest (after_first is_dot host)

abbrev pub IsPresentedFor : List ℕ → List ℕ → Type 0
IsPresentedFor presented host = IsSame presented host ⊎ IsWildFor presented host
