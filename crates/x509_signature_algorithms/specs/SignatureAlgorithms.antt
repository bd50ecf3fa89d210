-- The algorithms of signatures, and which parameters each has.
use Rattle.std.specs.Prelude.{◌≡◌, ℕ, if◌then◌else◌, List, [], ◌∷◌, ◌++◌, Option, Some, None}
use Rattle.std.specs.List.{list_any}
use Rattle.x509_der.specs.Element.{element}
use Rattle.x509_der.specs.ObjectIdentifier.{IsLawful, dotted, is_arcs, oid_content}
use Rattle.x509_der.specs.Optional.{optional_strict}
use Rattle.x509_oids_by_name.specs.Names.{arcs_of, Names}
use Rattle.x509_signature_algorithms.specs.declared.by_name.NotNamed.{NotNamed}
use Rattle.x509_signature_algorithms.specs.declared.by_name.NotNamed.TheVariants as error

-- RSASSA-PKCS1-v1_5 with SHA-1, SHA-224, SHA-256, SHA-384 and SHA-512 (RFC 8017, A.2.4), and with SHA3-224, SHA3-256, SHA3-384 and
-- SHA3-512 (RFC 9688, 3.1): NULL
abbrev pub with_null : List (List ℕ)
with_null =
    (1 ∷ 2 ∷ 840 ∷ 113549 ∷ 1 ∷ 1 ∷ 5 ∷ [])
    ∷ (1 ∷ 2 ∷ 840 ∷ 113549 ∷ 1 ∷ 1 ∷ 14 ∷ [])
    ∷ (1 ∷ 2 ∷ 840 ∷ 113549 ∷ 1 ∷ 1 ∷ 11 ∷ [])
    ∷ (1 ∷ 2 ∷ 840 ∷ 113549 ∷ 1 ∷ 1 ∷ 12 ∷ [])
    ∷ (1 ∷ 2 ∷ 840 ∷ 113549 ∷ 1 ∷ 1 ∷ 13 ∷ [])
    ∷ (2 ∷ 16 ∷ 840 ∷ 1 ∷ 101 ∷ 3 ∷ 4 ∷ 3 ∷ 13 ∷ [])
    ∷ (2 ∷ 16 ∷ 840 ∷ 1 ∷ 101 ∷ 3 ∷ 4 ∷ 3 ∷ 14 ∷ [])
    ∷ (2 ∷ 16 ∷ 840 ∷ 1 ∷ 101 ∷ 3 ∷ 4 ∷ 3 ∷ 15 ∷ [])
    ∷ (2 ∷ 16 ∷ 840 ∷ 1 ∷ 101 ∷ 3 ∷ 4 ∷ 3 ∷ 16 ∷ [])
    ∷ []

-- ECDSA with SHA-256, SHA-384 and SHA-512 (RFC 5758, 3.2), and with SHA3-224, SHA3-256, SHA3-384 and SHA3-512 (RFC 9688, 3.2);
-- Ed25519 and Ed448 (RFC 8410, 3); ML-DSA-44, ML-DSA-65 and ML-DSA-87 (RFC 9881, 2); DSA with SHA-1 (RFC 3279, 2.2.2): none
abbrev pub with_none : List (List ℕ)
with_none =
    (1 ∷ 2 ∷ 840 ∷ 10045 ∷ 4 ∷ 3 ∷ 2 ∷ [])
    ∷ (1 ∷ 2 ∷ 840 ∷ 10045 ∷ 4 ∷ 3 ∷ 3 ∷ [])
    ∷ (1 ∷ 2 ∷ 840 ∷ 10045 ∷ 4 ∷ 3 ∷ 4 ∷ [])
    ∷ (2 ∷ 16 ∷ 840 ∷ 1 ∷ 101 ∷ 3 ∷ 4 ∷ 3 ∷ 9 ∷ [])
    ∷ (2 ∷ 16 ∷ 840 ∷ 1 ∷ 101 ∷ 3 ∷ 4 ∷ 3 ∷ 10 ∷ [])
    ∷ (2 ∷ 16 ∷ 840 ∷ 1 ∷ 101 ∷ 3 ∷ 4 ∷ 3 ∷ 11 ∷ [])
    ∷ (2 ∷ 16 ∷ 840 ∷ 1 ∷ 101 ∷ 3 ∷ 4 ∷ 3 ∷ 12 ∷ [])
    ∷ (1 ∷ 3 ∷ 101 ∷ 112 ∷ [])
    ∷ (1 ∷ 3 ∷ 101 ∷ 113 ∷ [])
    ∷ (2 ∷ 16 ∷ 840 ∷ 1 ∷ 101 ∷ 3 ∷ 4 ∷ 3 ∷ 17 ∷ [])
    ∷ (2 ∷ 16 ∷ 840 ∷ 1 ∷ 101 ∷ 3 ∷ 4 ∷ 3 ∷ 18 ∷ [])
    ∷ (2 ∷ 16 ∷ 840 ∷ 1 ∷ 101 ∷ 3 ∷ 4 ∷ 3 ∷ 19 ∷ [])
    ∷ (1 ∷ 2 ∷ 840 ∷ 10040 ∷ 4 ∷ 3 ∷ [])
    ∷ []

-- the parameters, where the algorithm is one of these: NULL, or none
abbrev pub parameters_of : List ℕ → Option (Option (Unit {0}))
parameters_of arcs =
    if list_any (is_arcs arcs) with_null then Some (Some tt)
    else if list_any (is_arcs arcs) with_none then Some None
    else None

-- AlgorithmIdentifier ::= SEQUENCE { algorithm OBJECT IDENTIFIER, parameters ANY DEFINED BY algorithm OPTIONAL } (RFC 5280, 4.1.1.2)
abbrev pub identifier : List ℕ → Option (Unit {0}) → List ℕ
identifier arcs parameters = element 48 (element 6 (oid_content arcs) ++ optional_strict (λ n. element 5 []) parameters)

-- the bytes are the identifier of the algorithm that the text names
pub record IsNamed (text bytes : List ℕ) : Type 0 where
  pub arcs : List ℕ
  pub named : Names text arcs
  pub parameters : Option (Unit {0})
  pub known : parameters_of arcs ≡ Some parameters
  pub is : bytes ≡ identifier arcs parameters

-- the text names something else
pub record NamesNone (text : List ℕ) : Type 0 where
  pub arcs : List ℕ
  pub named : Names text arcs
  pub none : parameters_of arcs ≡ None

-- why there is no identifier
abbrev pub WhyNotNamed : List ℕ → NotNamed → Type 0
WhyNotNamed text error.Unknown = arcs_of text ≡ None → (arcs : List ℕ) → IsLawful arcs → text ≡ dotted arcs → ⊥
WhyNotNamed text error.NoSignature = NamesNone text
WhyNotNamed text error.OutOfMemory = Unit {0}
