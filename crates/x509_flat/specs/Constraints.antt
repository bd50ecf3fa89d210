-- What is told of basic constraints (RFC 5280, 4.2.1.9).
use Rattle.std.specs.Prelude.{◌≡◌, ℕ, Bool, false, true, List, Option, Some, None}
use Rattle.x509_der.specs.Calls.{IsWhole}
use Rattle.x509_der.specs.Tally.{Tally}
use Rattle.picky_asn1_x509.specs.BasicConstraints.{Constraints, basic_constraints}
use Rattle.x509_flat.specs.Statuses.{OnlyReads}
use Rattle.x509_flat.specs.declared.constraints.FlatConstraints.{FlatConstraints}
use Rattle.x509_flat.specs.declared.status.Status.{Status}
use Rattle.x509_flat.specs.declared.status.Status.TheVariants as answer

-- cA is FALSE by default
abbrev pub ca_of : Option Bool → Bool
ca_of (Some ca) = ca
ca_of None = false

abbrev pub is_limited : Option ℕ → Bool
is_limited (Some length) = true
is_limited None = false

abbrev pub limit_of : Option ℕ → ℕ
limit_of (Some length) = length
limit_of None = 0

abbrev pub flat_constraints : Constraints → FlatConstraints
flat_constraints v = record { is_ca = ca_of v.ca; has_path_length = is_limited v.pathlen; path_length = limit_of v.pathlen }

abbrev pub no_constraints : FlatConstraints
no_constraints = record { is_ca = false; has_path_length = false; path_length = 0 }

-- the constraints that the octets encode
pub record Constrains (octets : List ℕ) (fields : FlatConstraints) : Type 0 where
  pub value : Constraints
  pub tally : Tally
  pub whole : IsWhole basic_constraints octets value tally
  pub is : fields ≡ flat_constraints value

-- what a status says of telling them; memory is never refused
pub record ConstraintsTold (octets : List ℕ) (status : Status) (fields : FlatConstraints) : Type 0 where
  pub done : status ≡ answer.Done → Constrains octets fields
  pub refused : status ≡ answer.Refused → (fields ≡ no_constraints) × ((v : Constraints) (y : Tally) → basic_constraints.spelled v octets y → ⊥)
  pub memory : status ≡ answer.OutOfMemory → ⊥
  pub others : OnlyReads status
