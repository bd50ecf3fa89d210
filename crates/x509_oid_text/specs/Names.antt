-- What the name of an object identifier is, by its content.
use Rattle.std.specs.Prelude.{◌≡◌, ℕ, List, Option, None}
use Rattle.x509_der.specs.ObjectIdentifier.{IsOid}
use Rattle.x509_oid_names.specs.Names.{IsNameOf}

-- that of the arcs which it encodes; none where it is the content of no object identifier
pub record IsNameIn (content : List ℕ) (name : Option (List ℕ)) : Type 0 where
  pub by : (arcs : List ℕ) → IsOid arcs content → IsNameOf arcs name
  pub none : ((arcs : List ℕ) → IsOid arcs content → ⊥) → name ≡ None
