-- Where services of an authority or a subject are found (RFC 5280, 4.2.2).
use Rattle.std.specs.Prelude.{ℕ, List}
use Rattle.x509_der.specs.Shape.{Shape}
use Rattle.x509_der.specs.Tagged.{tagged}
use Rattle.x509_der.specs.Join.{join}
use Rattle.x509_der.specs.Items.{items}
use Rattle.x509_der.specs.Structure.{structure}
use Rattle.x509_der.specs.ObjectIdentifier.{oids}
use Rattle.x509_names.specs.GeneralNames.{general_name}
use Rattle.x509_names.specs.declared.general_name.GeneralName.{GeneralName}
use Rattle.x509_more_extensions.specs.declared.structures.access_description.AccessDescription.{AccessDescription}

abbrev pub Fields : Type 0 → Type 0
Fields A = List ℕ × GeneralName A

abbrev pub access_description_parts : {A : Type 0} → AccessDescription A → Fields A
access_description_parts v = (v.access_method, v.access_location)

-- accessMethod OBJECT IDENTIFIER, accessLocation GeneralName
abbrev pub access_description_inner : {A : Type 0} → Shape (Fields A)
access_description_inner = join (λ j. j.0) (λ j. j.1) (tagged 6 oids) general_name

abbrev pub access_description_content : {A : Type 0} → Shape (AccessDescription A)
access_description_content = structure access_description_parts access_description_inner

-- AccessDescription ::= SEQUENCE { accessMethod, accessLocation }
abbrev pub access_description : {A : Type 0} → Shape (AccessDescription A)
access_description = tagged 48 access_description_content

-- AuthorityInfoAccessSyntax ::= SEQUENCE SIZE (1..MAX) OF AccessDescription; an empty list is one too
abbrev pub authority_info_access : {A : Type 0} → Shape (List (AccessDescription A))
authority_info_access = tagged 48 (items access_description)

-- SubjectInfoAccessSyntax ::= SEQUENCE SIZE (1..MAX) OF AccessDescription, likewise
abbrev pub subject_info_access : {A : Type 0} → Shape (List (AccessDescription A))
subject_info_access = tagged 48 (items access_description)
