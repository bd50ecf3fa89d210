-- The names that certificates below an authority's may have (RFC 5280, 4.2.1.10).
use Rattle.std.specs.Prelude.{List, Option}
use Rattle.x509_der.specs.Shape.{Shape}
use Rattle.x509_der.specs.Tagged.{tagged}
use Rattle.x509_der.specs.Join.{join}
use Rattle.x509_der.specs.Items.{items}
use Rattle.x509_der.specs.Optional.{optional}
use Rattle.x509_der.specs.Structure.{structure}
use Rattle.x509_more_extensions.specs.GeneralSubtree.{general_subtree}
use Rattle.x509_more_extensions.specs.declared.structures.general_subtree.GeneralSubtree.{GeneralSubtree}
use Rattle.x509_more_extensions.specs.declared.structures.name_constraints.NameConstraints.{NameConstraints}

abbrev pub Fields : Type 0 → Type 0
Fields A = Option (List (GeneralSubtree A)) × Option (List (GeneralSubtree A))

abbrev pub name_constraints_parts : {A : Type 0} → NameConstraints A → Fields A
name_constraints_parts v = (v.permitted_subtrees, v.excluded_subtrees)

-- permittedSubtrees [0] GeneralSubtrees OPTIONAL, excludedSubtrees [1] GeneralSubtrees OPTIONAL, with implicit tags
abbrev pub name_constraints_inner : {A : Type 0} → Shape (Fields A)
name_constraints_inner =
    join (λ j. j.0) (λ j. j.1) (optional (tagged 160 (items general_subtree))) (optional (tagged 161 (items general_subtree)))

abbrev pub name_constraints_content : {A : Type 0} → Shape (NameConstraints A)
name_constraints_content = structure name_constraints_parts name_constraints_inner

-- NameConstraints ::= SEQUENCE { permittedSubtrees, excludedSubtrees }
abbrev pub name_constraints : {A : Type 0} → Shape (NameConstraints A)
name_constraints = tagged 48 name_constraints_content
