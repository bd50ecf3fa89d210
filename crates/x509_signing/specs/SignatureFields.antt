-- The algorithm that a certificate's signed part names (RFC 5280, 4.1.2.3).
use Rattle.std.specs.Prelude.{◌≡◌, ℕ, List, [], ◌++◌, ◌⊎◌}
use Rattle.x509_der.specs.Element.{element}

-- version [0] EXPLICIT Version DEFAULT v1: nothing, or an element
abbrev pub IsVersionField : List ℕ → Type 0
IsVersionField string = (string ≡ []) ⊎ ((c : List ℕ) × (string ≡ element 160 c))

-- TBSCertificate ::= SEQUENCE { version [0] EXPLICIT Version DEFAULT v1, serialNumber INTEGER, signature AlgorithmIdentifier, .. },
-- where AlgorithmIdentifier is a SEQUENCE: the slice is the third field
pub record IsSignatureField (part slice : List ℕ) : Type 0 where
  pub version : List ℕ
  pub optional : IsVersionField version
  pub serial : List ℕ
  pub content : List ℕ
  pub is : slice ≡ element 48 content
  pub behind : List ℕ
  pub bytes : part ≡ element 48 (version ++ (element 2 serial ++ (slice ++ behind)))
