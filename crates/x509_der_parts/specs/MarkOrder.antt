-- Marks stand within their spelling, and in order: by start, and then by kind.
use Rattle.std.proofs.Common.{◌≡◌, ℕ, ◌≤◌, ◌<◌, ◌⊎◌, List, [], ◌∷◌}
use Rattle.x509_der_parts.specs.declared.deviation.Deviation.{Deviation}
use Rattle.x509_der_parts.specs.Tally.{Mark}
use Rattle.x509_der_parts.specs.Deviations.{kind_index}

-- each mark has a start below its end, within n bytes
abbrev pub Within : ℕ → List Mark → Type 0
Within n [] = Unit {0}
Within n (m ∷ ms) = ((m.start < m.end) × (m.end ≤ n)) × Within n ms

-- a mark stands before each of the others
abbrev pub Before : Mark → List Mark → Type 0
Before m [] = Unit {0}
Before m (k ∷ ks) = ((m.start < k.start) ⊎ ((m.start ≡ k.start) × (kind_index m.kind < kind_index k.kind))) × Before m ks

-- by start, and at one start strictly by kind
abbrev pub Ordered : List Mark → Type 0
Ordered [] = Unit {0}
Ordered (m ∷ ms) = Before m ms × Ordered ms

pub record Placing (n : ℕ) (ms : List Mark) : Type 0 where
  pub within : Within n ms
  pub ordered : Ordered ms

-- marks over the whole

-- every mark begins behind the first byte
abbrev pub Deep : List Mark → Type 0
Deep [] = Unit {0}
Deep (m ∷ ms) = (0 < m.start) × Deep ms

abbrev pub Above : Deviation → List Deviation → Type 0
Above k [] = Unit {0}
Above k (j ∷ ks) = (kind_index k < kind_index j) × Above k ks

-- kinds in their order, each once
abbrev pub Ascending : List Deviation → Type 0
Ascending [] = Unit {0}
Ascending (k ∷ ks) = Above k ks × Ascending ks
