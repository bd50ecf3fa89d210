-- Where the parts of attributes and names stand, and which attributes are read back.
use Rattle.std.specs.Prelude.{◌≡◌, ℕ, ◌+◌, length, List, ◌∷◌, ◌++◌}
use Rattle.x509_names_parts.specs.DirectoryStrings.{directory_string}
use Rattle.x509_names.specs.declared.attribute_value.AttributeKind.{AttributeKind}
use Rattle.x509_names.specs.declared.attribute_value.AttributeTypeAndValueParameters.{AttributeTypeAndValueParameters}
use Rattle.x509_names.specs.declared.attribute_type_and_value.AttributeTypeAndValue.{AttributeTypeAndValue}
use Rattle.x509_der.specs.Types.choice.{First, Second}
use Rattle.x509_der.specs.Element.{element, header}
use Rattle.x509_der.specs.Tally.{Tally}
use Rattle.x509_der.specs.Tagged.{tagged}
use Rattle.x509_der.specs.Items.{ItemAt}
use Rattle.x509_der.specs.ObjectIdentifier.{oids}
use Rattle.x509_der.specs.RawElement.{raws}
use Rattle.x509_der.specs.Fields.{FieldAt, Stands}
use Rattle.x509_names.specs.Attributes.{Held, held, email, by_kind, kind_of, attribute}
use Rattle.x509_names.specs.Names.{Set, Sets, relative_name}
use Rattle.x509_names.specs.declared.name_attr.NameAttr.TheVariants as attr
use Rattle.x509_names.specs.declared.attribute_value.AttributeKind.TheVariants as kind
use Rattle.x509_names.specs.declared.attribute_value.AttributeTypeAndValueParameters.TheVariants as value

-- what a value holds stands in the slice: a directory string, an IA5String or any element
abbrev pub HeldAt : {A : Type 0} → Held A → ℕ → List ℕ → List ℕ → Tally → Type 0
HeldAt (First d) n slice string y = Stands directory_string d n slice string y
HeldAt (Second (First i)) n slice string y = Stands email i n slice string y
HeldAt (Second (Second r)) n slice string y = Stands raws r n slice string y

-- the fields of an attribute: the type, and behind it the value of the kind that the type says, in whose place stands
-- what it holds
pub record FieldsAt {A : Type 0} (v : AttributeTypeAndValue A) (string : List ℕ) (y : Tally) : Type 0 where
  pub content : List ℕ
  pub bytes : string ≡ element 48 content
  pub types : List ℕ
  pub values : List ℕ
  pub fields : content ≡ types ++ values
  pub type_at : FieldAt (tagged 6 oids) v.ty (header content) types string y
  pub value_at : FieldAt (by_kind (kind_of v.ty)) v.value (header content + length types) values string y
  pub held_at : HeldAt (held v.value) (header content + length types) values string y

-- an attribute of a name: it stands behind those before it in the content of its set, and the set behind those before
-- it in the name's content
pub record AttributeAt {A : Type 0} (done more : Sets A) (before after : Set A) (v : AttributeTypeAndValue A)
    (string : List ℕ) (y : Tally) : Type 0 where
  pub content : List ℕ
  pub bytes : string ≡ element 48 content
  pub set_at : ItemAt relative_name done (before ++ v ∷ after) more (header content) content string y
  pub attributes : List ℕ
  pub set_bytes : set_at.item ≡ element 49 attributes
  pub attribute_at : ItemAt attribute before v after ((header content + length set_at.before) + header attributes)
      attributes string y

-- a set of a name, with attributes or without: it stands behind those before it in the name's content
pub record SetAt {A : Type 0} (done more : Sets A) (set : Set A) (string : List ℕ) (y : Tally) : Type 0 where
  pub content : List ℕ
  pub bytes : string ≡ element 48 content
  pub set_at : ItemAt relative_name done set more (header content) content string y

-- the kind of a value by its variant
abbrev pub kind_in : {A : Type 0} → AttributeTypeAndValueParameters A → AttributeKind
kind_in (value.CommonName d) = kind.Text attr.CommonName
kind_in (value.Surname d) = kind.Text attr.Surname
kind_in (value.SerialNumber d) = kind.Text attr.SerialNumber
kind_in (value.CountryName d) = kind.Text attr.CountryName
kind_in (value.LocalityName d) = kind.Text attr.LocalityName
kind_in (value.StateOrProvinceName d) = kind.Text attr.StateOrProvinceName
kind_in (value.StreetName d) = kind.Text attr.StreetName
kind_in (value.OrganizationName d) = kind.Text attr.OrganizationName
kind_in (value.OrganizationalUnitName d) = kind.Text attr.OrganizationalUnitName
kind_in (value.EmailAddress i) = kind.Email
kind_in (value.GivenName d) = kind.Text attr.GivenName
kind_in (value.Phone d) = kind.Text attr.Phone
kind_in (value.Custom r) = kind.Other
