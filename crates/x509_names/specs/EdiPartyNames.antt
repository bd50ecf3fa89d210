-- A party to electronic data interchange, and who named it (RFC 5280, 4.2.1.6).
use Rattle.std.proofs.Common.{◌≡◌, ℕ, ◌+◌, List, ◌++◌, length, Option}
use Rattle.x509_names_parts.specs.declared.directory_string.DirectoryString.{DirectoryString}
use Rattle.x509_names.specs.declared.edi_party_name.EdiPartyName.{EdiPartyName}
use Rattle.x509_der.specs.Element.{element, header}
use Rattle.x509_der.specs.Tally.{Tally}
use Rattle.x509_der.specs.Shape.{Shape}
use Rattle.x509_der.specs.Fields.{Stands}
use Rattle.x509_der.specs.Tagged.{tagged}
use Rattle.x509_der.specs.Join.{join}
use Rattle.x509_der.specs.Optional.{optional, OptionalAt}
use Rattle.x509_der.specs.Structure.{structure}
use Rattle.x509_names_parts.specs.DirectoryStrings.{directory_string}

abbrev pub Fields : Type 0 → Type 0
Fields A = Option (DirectoryString A) × DirectoryString A

abbrev pub edi_parts : {A : Type 0} → EdiPartyName A → Fields A
edi_parts v = (v.name_assigner, v.party_name)

-- [0] DirectoryString: the tag is an explicit one, since a DirectoryString is a CHOICE (X.680, 31.2.7)
abbrev pub name_assigner : {A : Type 0} → Shape (DirectoryString A)
name_assigner = tagged 160 directory_string

-- [1] DirectoryString, likewise
abbrev pub party_name : {A : Type 0} → Shape (DirectoryString A)
party_name = tagged 161 directory_string

-- nameAssigner [0] DirectoryString OPTIONAL, partyName [1] DirectoryString
abbrev pub edi_inner : {A : Type 0} → Shape (Fields A)
edi_inner = join (λ j. j.0) (λ j. j.1) (optional name_assigner) party_name

-- the content of an EDIPartyName, without the header
abbrev pub edi_content : {A : Type 0} → Shape (EdiPartyName A)
edi_content = structure edi_parts edi_inner

-- EDIPartyName ::= SEQUENCE { nameAssigner [0] DirectoryString OPTIONAL, partyName [1] DirectoryString }
abbrev pub edi_party_name : {A : Type 0} → Shape (EdiPartyName A)
edi_party_name = tagged 48 edi_content

-- the fields one behind the other in a content behind n bytes, each under its tag
pub record EdiFieldsAt {A : Type 0} (v : EdiPartyName A) (n : ℕ) (content string : List ℕ) (y : Tally) : Type 0 where
  pub assigners : List ℕ
  pub parties : List ℕ
  pub fields : content ≡ assigners ++ parties
  pub assigner_at : OptionalAt name_assigner v.name_assigner n assigners string y
  pub party_at : Stands party_name v.party_name (n + length assigners) parties string y

-- the same in the SEQUENCE
pub record EdiPartyNameAt {A : Type 0} (v : EdiPartyName A) (string : List ℕ) (y : Tally) : Type 0 where
  pub content : List ℕ
  pub bytes : string ≡ element 48 content
  pub fields_at : EdiFieldsAt v (header content) content string y
