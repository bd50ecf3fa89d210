-- Extensions by their identifiers: the first of each counts.
use Rattle.std.specs.Prelude.{ℕ, Bool, if◌then◌else◌, List, [], ◌∷◌, Option, Some, None}
use Rattle.x509_der.specs.ObjectIdentifier.{is_arcs}
use Rattle.picky_asn1_x509_parts.specs.Extensions.{ExtensionFields}

-- the extension has this identifier
unfoldable pub has_identifier : {A : Type 0} → List ℕ → ExtensionFields A → Bool
has_identifier arcs e = is_arcs e.extn_id arcs

-- the first extension that has it
abbrev pub first_of : {A : Type 0} → List ℕ → List (ExtensionFields A) → Option (ExtensionFields A)
first_of arcs [] = None
first_of arcs (e ∷ es) = if has_identifier arcs e then Some e else first_of arcs es
