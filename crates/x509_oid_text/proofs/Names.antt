-- The name of the arcs that a content encodes.
use Rattle.std.proofs.Common.{◌≡◌, ℕ, ◌≤◌, List, Option, None, length, refl, subst, ◌∙◌}
use Rattle.x509_der.specs.ObjectIdentifier.{IsOid}
use Rattle.x509_oid_names.specs.Names.{IsNameOf}
use Rattle.x509_oid_names.specs.facts.Long.{long_unnamed}
use Rattle.x509_oid_text.proofs.Dotted.{one_list}
use Rattle.x509_oid_text.specs.Names.{IsNameIn}

-- that of a row which they are
pub named : (content arcs row : List ℕ) (name : Option (List ℕ)) → IsOid arcs content → row ≡ arcs → IsNameOf row name → IsNameIn content name
named content arcs row name here same of_row = record {
  by = λ others there. subst (λ x. IsNameOf x name) (same ∙ one_list arcs others content here there) of_row;
  none = λ no. absurd (no arcs here);
}

-- more arcs than the row holds are those of no name
pub too_many : (content arcs : List ℕ) → IsOid arcs content → 17 ≤ length arcs → IsNameIn content None
too_many content arcs here many = named content arcs arcs None here refl (long_unnamed arcs many)
