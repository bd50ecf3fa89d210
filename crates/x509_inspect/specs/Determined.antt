-- As which type bytes without a label are taken.
use Rattle.std.specs.Prelude.{◌≡◌, ◌⊎◌, ℕ, ◌≤◌, ◌<◌, List, [], ◌∷◌, ◌++◌, Option, Some, None, All, MatchOption}
use Rattle.x509_der.specs.Types.{Refused}
use Rattle.x509_inspect.specs.Outcomes.{Encodes, EncodesNone}
use Rattle.x509_inspect.specs.Shapes.{Value, shape_of}
use Rattle.x509_inspect_parts.specs.declared.kind.Kind.{Kind}
use Rattle.x509_inspect_parts.specs.declared.kind.Kind.TheVariants as kind
use Rattle.x509_inspect.specs.declared.kinds.Outcomes.{Outcomes}
use Rattle.x509_inspect.specs.declared.kinds.Determined.{Determined}
use Rattle.x509_inspect.specs.declared.kinds.Determined.TheVariants as determined

-- bytes that one of these accepts are of that type; other structures are read as the other three too
abbrev pub IsTelling : Kind → Type 0
IsTelling kind.Name = ⊥
IsTelling kind.Algorithm = ⊥
IsTelling kind.RawAlgorithm = ⊥
IsTelling _ = Unit {0}

abbrev pub all_kinds : List Kind
all_kinds =
    kind.Certificate ∷ kind.Request ∷ kind.PrivateKey ∷ kind.PublicKey ∷ kind.RsaPrivateKey ∷ kind.RsaPublicKey
    ∷ kind.EcPrivateKey ∷ kind.Name ∷ kind.Extensions ∷ kind.Algorithm ∷ kind.RawAlgorithm ∷ kind.RequestInfo
    ∷ kind.TbsCertificate ∷ []

-- why bytes are refused as a type, or none where they are accepted
abbrev pub outcome_of : Outcomes → Kind → Option Refused
outcome_of o kind.Certificate = o.certificate
outcome_of o kind.Request = o.request
outcome_of o kind.PrivateKey = o.private_key
outcome_of o kind.PublicKey = o.public_key
outcome_of o kind.RsaPrivateKey = o.rsa_private_key
outcome_of o kind.RsaPublicKey = o.rsa_public_key
outcome_of o kind.EcPrivateKey = o.ec_private_key
outcome_of o kind.Name = o.name
outcome_of o kind.Extensions = o.extensions
outcome_of o kind.Algorithm = o.algorithm
outcome_of o kind.RawAlgorithm = o.raw_algorithm
outcome_of o kind.RequestInfo = o.request_info
outcome_of o kind.TbsCertificate = o.tbs_certificate

-- the bytes encode a value of each type that accepts them, and none of any other
abbrev pub Tried : Type 0 → List ℕ → Outcomes → Type 0
Tried A bytes o = (k : Kind) → MatchOption (outcome_of o k) (Encodes (Value A k) (shape_of A k) bytes) (EncodesNone (Value A k) (shape_of A k) bytes)

-- how far the reading as a type got
abbrev pub refused_at : Option Refused → ℕ
refused_at None = 0
refused_at (Some why) = why.at

abbrev pub at_of : Outcomes → Kind → ℕ
at_of o k = refused_at (outcome_of o k)

-- none of some other types accepts the bytes
abbrev pub OnlyOne : Outcomes → List Kind → Kind → Type 0
OnlyOne o kinds kind = All (λ other. outcome_of o other ≡ None → other ≡ kind) kinds

-- of some types the first that accepts the bytes
pub record FirstAccepting (o : Outcomes) (kinds : List Kind) (k : Kind) : Type 0 where
  pub front : List Kind
  pub back : List Kind
  pub stands : kinds ≡ front ++ (k ∷ back)
  pub accepts : outcome_of o k ≡ None
  pub refuse : All (λ other. outcome_of o other ≡ None → ⊥) front

-- the first that accepts the bytes, or none does
abbrev pub AcceptedAs : Outcomes → List Kind → Option Kind → Type 0
AcceptedAs o kinds None = All (λ other. outcome_of o other ≡ None → ⊥) kinds
AcceptedAs o kinds (Some k) = FirstAccepting o kinds k

-- of some types that say what the bytes are, the first of those whose reading got furthest
pub record FirstFurthest (o : Outcomes) (kinds : List Kind) (k : Kind) : Type 0 where
  pub front : List Kind
  pub back : List Kind
  pub stands : kinds ≡ front ++ (k ∷ back)
  pub telling : IsTelling k
  pub further : All (λ other. IsTelling other → at_of o other < at_of o k) front
  pub as_far : All (λ other. IsTelling other → at_of o other ≤ at_of o k) back

abbrev pub FurthestOf : Outcomes → List Kind → Option Kind → Type 0
FurthestOf o kinds None = All (λ other. IsTelling other → ⊥) kinds
FurthestOf o kinds (Some k) = FirstFurthest o kinds k

-- reading as a type got further than as the best so far, if there is one
abbrev pub IsFurther : Outcomes → Option Kind → Kind → Type 0
IsFurther o None k = Unit {0}
IsFurther o (Some best) k = at_of o best < at_of o k

-- one type says what the bytes are, and no other accepts them; or none accepts them, and of those that would say so the first that got furthest is told; or some accept them, and not one alone that says what they are
abbrev pub IsDetermined : Outcomes → Determined → Type 0
IsDetermined o (determined.One k) = IsTelling k × (outcome_of o k ≡ None) × OnlyOne o all_kinds k
IsDetermined o (determined.None k why) = AcceptedAs o all_kinds None × FirstFurthest o all_kinds k × (outcome_of o k ≡ Some why)
IsDetermined o (determined.Several outcomes) = (outcomes ≡ o) × (AcceptedAs o all_kinds None → ⊥) × ((k : Kind) → IsTelling k → outcome_of o k ≡ None → OnlyOne o all_kinds k → ⊥)
