-- The names below a name (RFC 5280, 4.2.1.10).
use Rattle.std.specs.Prelude.{ℕ, List, Option}
use Rattle.x509_der.specs.Shape.{Shape}
use Rattle.x509_der.specs.Tagged.{tagged}
use Rattle.x509_der.specs.Join.{join}
use Rattle.x509_der.specs.Items.{items}
use Rattle.x509_der.specs.Optional.{optional}
use Rattle.x509_der.specs.Structure.{structure}
use Rattle.x509_der.specs.Integer.{integers}
use Rattle.x509_names.specs.GeneralNames.{general_name}
use Rattle.x509_names.specs.declared.general_name.GeneralName.{GeneralName}
use Rattle.x509_more_extensions.specs.declared.structures.general_subtree.GeneralSubtree.{GeneralSubtree}

abbrev pub Fields : Type 0 → Type 0
Fields A = GeneralName A × (Option (List ℕ) × Option (List ℕ))

abbrev pub general_subtree_parts : {A : Type 0} → GeneralSubtree A → Fields A
general_subtree_parts v = (v.base, (v.minimum, v.maximum))

-- base GeneralName, minimum [0] BaseDistance DEFAULT 0, maximum [1] BaseDistance OPTIONAL, with implicit tags;
-- BaseDistance ::= INTEGER (0..MAX), of which the range isn't asked, and a minimum of 0 may be absent or be there
abbrev pub general_subtree_inner : {A : Type 0} → Shape (Fields A)
general_subtree_inner =
    join (λ j. j.0) (λ j. j.1) general_name
    (join (λ j. j.0) (λ j. j.1) (optional (tagged 128 integers)) (optional (tagged 129 integers)))

abbrev pub general_subtree_content : {A : Type 0} → Shape (GeneralSubtree A)
general_subtree_content = structure general_subtree_parts general_subtree_inner

-- GeneralSubtree ::= SEQUENCE { base, minimum, maximum }
abbrev pub general_subtree : {A : Type 0} → Shape (GeneralSubtree A)
general_subtree = tagged 48 general_subtree_content

-- GeneralSubtrees ::= SEQUENCE SIZE (1..MAX) OF GeneralSubtree; an empty list is one too
abbrev pub general_subtrees : {A : Type 0} → Shape (List (GeneralSubtree A))
general_subtrees = tagged 48 (items general_subtree)
