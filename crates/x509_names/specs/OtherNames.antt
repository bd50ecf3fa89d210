-- A name of a form of one's own (RFC 5280, 4.2.1.6).
use Rattle.std.proofs.Common.{◌≡◌, ℕ, ◌+◌, List, ◌++◌, length}
use Rattle.x509_names.specs.declared.other_name.OtherName.{OtherName}
use Rattle.x509_der.specs.Element.{element, header}
use Rattle.x509_der.specs.Tally.{Tally}
use Rattle.x509_der.specs.Shape.{Shape}
use Rattle.x509_der.specs.Fields.{Stands}
use Rattle.x509_der.specs.Tagged.{tagged}
use Rattle.x509_der.specs.Join.{join}
use Rattle.x509_der.specs.RawElement.{raws}
use Rattle.x509_der.specs.ObjectIdentifier.{oids}
use Rattle.x509_der.specs.Structure.{structure}

-- the arcs of the form, and the element that is the name
abbrev pub Fields : Type 0
Fields = List ℕ × List ℕ

abbrev pub other_parts : {A : Type 0} → OtherName A → Fields
other_parts v = (v.type_id, v.value)

-- OBJECT IDENTIFIER
abbrev pub type_id : Shape (List ℕ)
type_id = tagged 6 oids

-- [0] EXPLICIT ANY
abbrev pub value : Shape (List ℕ)
value = tagged 160 raws

-- type-id OBJECT IDENTIFIER, value [0] EXPLICIT ANY DEFINED BY type-id
abbrev pub other_inner : Shape Fields
other_inner = join (λ j. j.0) (λ j. j.1) type_id value

-- the content of an OtherName, without the header
abbrev pub other_content : {A : Type 0} → Shape (OtherName A)
other_content = structure other_parts other_inner

-- OtherName ::= SEQUENCE { type-id OBJECT IDENTIFIER, value [0] EXPLICIT ANY DEFINED BY type-id }
abbrev pub other_name : {A : Type 0} → Shape (OtherName A)
other_name = tagged 48 other_content

-- the fields one behind the other in a content behind n bytes, the value under its tag
pub record OtherFieldsAt {A : Type 0} (v : OtherName A) (n : ℕ) (content string : List ℕ) (y : Tally) : Type 0 where
  pub types : List ℕ
  pub values : List ℕ
  pub fields : content ≡ types ++ values
  pub type_at : Stands type_id v.type_id n types string y
  pub value_at : Stands value v.value (n + length types) values string y

-- the same in the SEQUENCE
pub record OtherNameAt {A : Type 0} (v : OtherName A) (string : List ℕ) (y : Tally) : Type 0 where
  pub content : List ℕ
  pub bytes : string ≡ element 48 content
  pub fields_at : OtherFieldsAt v (header content) content string y
