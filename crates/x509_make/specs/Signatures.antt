-- Signatures that have a form of their own.
use Rattle.std.specs.Prelude.{◌≡◌, ℕ, Bool, true, ◌||◌, List, [], ◌∷◌}
use Rattle.x509_der.specs.Integer.{integers}
use Rattle.x509_der.specs.Join.{join}
use Rattle.x509_der.specs.ObjectIdentifier.{is_arcs, is_strictly_under}
use Rattle.x509_der.specs.Shape.{Shape}
use Rattle.x509_der.specs.Tagged.{tagged}
use Rattle.x509_der.specs.Tally.{Tally}

-- the algorithms of ECDSA: all under ansi-X9-62 signatures (RFC 3279, 2.2.3; RFC 5758, 3.2), and those with SHA3-224, SHA3-256, SHA3-384 and SHA3-512 (RFC 9688, 3.2)
abbrev pub is_ecdsa : List ℕ → Bool
is_ecdsa arcs =
    is_strictly_under (1 ∷ 2 ∷ 840 ∷ 10045 ∷ 4 ∷ []) arcs ||
    (is_arcs arcs (2 ∷ 16 ∷ 840 ∷ 1 ∷ 101 ∷ 3 ∷ 4 ∷ 3 ∷ 9 ∷ []) ||
    (is_arcs arcs (2 ∷ 16 ∷ 840 ∷ 1 ∷ 101 ∷ 3 ∷ 4 ∷ 3 ∷ 10 ∷ []) ||
    (is_arcs arcs (2 ∷ 16 ∷ 840 ∷ 1 ∷ 101 ∷ 3 ∷ 4 ∷ 3 ∷ 11 ∷ []) ||
    is_arcs arcs (2 ∷ 16 ∷ 840 ∷ 1 ∷ 101 ∷ 3 ∷ 4 ∷ 3 ∷ 12 ∷ []))))

-- Ecdsa-Sig-Value ::= SEQUENCE { r INTEGER, s INTEGER } (RFC 3279, 2.2.3)
abbrev pub ecdsa_signatures : Shape (List ℕ × List ℕ)
ecdsa_signatures = tagged 48 (join (λ j. j.0) (λ j. j.1) (tagged 2 integers) (tagged 2 integers))

-- the bytes are such a signature
pub record IsEcdsaSignature (bytes : List ℕ) : Type 0 where
  pub numbers : List ℕ × List ℕ
  pub tally : Tally
  pub spelled : ecdsa_signatures.spelled numbers bytes tally
