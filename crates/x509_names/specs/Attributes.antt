-- Attributes of names: AttributeTypeAndValue, and what each attribute's value is (RFC 5280, 4.1.2.4 and appendix A.1).
use Rattle.std.specs.Prelude.{ℕ, true, false, if◌then◌else◌, List, [], ◌∷◌, ◌++◌, Option, Some, None}
use Rattle.x509_names_parts.specs.declared.directory_string.DirectoryString.{DirectoryString}
use Rattle.x509_names_parts.specs.DirectoryStrings.{directory_string}
use Rattle.x509_names.specs.declared.name_attr.NameAttr.{NameAttr}
use Rattle.x509_names.specs.declared.attribute_value.AttributeKind.{AttributeKind}
use Rattle.x509_names.specs.declared.attribute_value.AttributeTypeAndValueParameters.{AttributeTypeAndValueParameters}
use Rattle.x509_names.specs.declared.attribute_type_and_value.AttributeTypeAndValue.{AttributeTypeAndValue}
use Rattle.x509_der.specs.Types.{Choice}
use Rattle.x509_der.specs.Types.choice.{First, Second}
use Rattle.x509_der.specs.Choice.{choice}
use Rattle.x509_der.specs.Element.{element}
use Rattle.x509_der.specs.Shape.{Shape}
use Rattle.x509_der.specs.Tagged.{tagged}
use Rattle.x509_der.specs.Named.{named}
use Rattle.x509_der.specs.ObjectIdentifier.{is_arcs, oids, oid_content}
use Rattle.x509_der.specs.RawElement.{raws}
use Rattle.x509_der.specs.DefinedBy.{defined_by}
use Rattle.x509_der.specs.Variant.{variant}
use Rattle.x509_der.specs.Structure.{structure}
use Rattle.x509_prim.specs.Texts.{Passes, texts}
use Rattle.x509_prim.specs.CharSets.{are_ascii}
use Rattle.x509_names.specs.declared.name_attr.NameAttr.TheVariants as attr
use Rattle.x509_names.specs.declared.attribute_value.AttributeKind.TheVariants as kind
use Rattle.x509_names.specs.declared.attribute_value.AttributeTypeAndValueParameters.TheVariants as value

-- the object identifier of an attribute whose value is a directory string (X.520; RFC 5280, appendix A.1)
abbrev pub arcs_of : NameAttr → List ℕ
arcs_of attr.CommonName = 2 ∷ 5 ∷ 4 ∷ 3 ∷ []
arcs_of attr.Surname = 2 ∷ 5 ∷ 4 ∷ 4 ∷ []
arcs_of attr.SerialNumber = 2 ∷ 5 ∷ 4 ∷ 5 ∷ []
arcs_of attr.CountryName = 2 ∷ 5 ∷ 4 ∷ 6 ∷ []
arcs_of attr.LocalityName = 2 ∷ 5 ∷ 4 ∷ 7 ∷ []
arcs_of attr.StateOrProvinceName = 2 ∷ 5 ∷ 4 ∷ 8 ∷ []
arcs_of attr.StreetName = 2 ∷ 5 ∷ 4 ∷ 9 ∷ []
arcs_of attr.OrganizationName = 2 ∷ 5 ∷ 4 ∷ 10 ∷ []
arcs_of attr.OrganizationalUnitName = 2 ∷ 5 ∷ 4 ∷ 11 ∷ []
arcs_of attr.GivenName = 2 ∷ 5 ∷ 4 ∷ 42 ∷ []
arcs_of attr.Phone = 2 ∷ 5 ∷ 4 ∷ 20 ∷ []

-- that of emailAddress, whose value is an IA5String (RFC 2985, 5.2.1; RFC 5280, appendix A.1)
abbrev pub email_arcs : List ℕ
email_arcs = 1 ∷ 2 ∷ 840 ∷ 113549 ∷ 1 ∷ 9 ∷ 1 ∷ []

abbrev pub attrs : List NameAttr
attrs =
    attr.CommonName ∷ attr.Surname ∷ attr.SerialNumber ∷ attr.CountryName ∷ attr.LocalityName ∷ attr.StateOrProvinceName
    ∷ attr.StreetName ∷ attr.OrganizationName ∷ attr.OrganizationalUnitName ∷ attr.GivenName ∷ attr.Phone ∷ []

-- the attribute that arcs say, if they say one
abbrev pub attr_of : List ℕ → Option NameAttr
attr_of arcs = named arcs_of attrs arcs

abbrev pub text_or : AttributeKind → Option NameAttr → AttributeKind
text_or k (Some a) = kind.Text a
text_or k None = k

-- the kind of value that arcs say: the directory string of an attribute, an IA5String, or any element
abbrev pub kind_of : List ℕ → AttributeKind
kind_of arcs = text_or (if is_arcs arcs email_arcs then kind.Email else kind.Other) (attr_of arcs)

-- the value of an attribute that is a directory string
abbrev pub text_value : {A : Type 0} → NameAttr → DirectoryString A → AttributeTypeAndValueParameters A
text_value attr.CommonName d = value.CommonName d
text_value attr.Surname d = value.Surname d
text_value attr.SerialNumber d = value.SerialNumber d
text_value attr.CountryName d = value.CountryName d
text_value attr.LocalityName d = value.LocalityName d
text_value attr.StateOrProvinceName d = value.StateOrProvinceName d
text_value attr.StreetName d = value.StreetName d
text_value attr.OrganizationName d = value.OrganizationName d
text_value attr.OrganizationalUnitName d = value.OrganizationalUnitName d
text_value attr.GivenName d = value.GivenName d
text_value attr.Phone d = value.Phone d

-- an IA5String
abbrev pub email : Shape (List ℕ)
email = tagged 22 (texts (Passes are_ascii))

-- what a value holds: a directory string, an IA5String or any element
abbrev pub Held : Type 0 → Type 0
Held A = Choice (DirectoryString A) (Choice (List ℕ) (List ℕ))

abbrev pub held : {A : Type 0} → AttributeTypeAndValueParameters A → Held A
held (value.CommonName d) = First d
held (value.Surname d) = First d
held (value.SerialNumber d) = First d
held (value.CountryName d) = First d
held (value.LocalityName d) = First d
held (value.StateOrProvinceName d) = First d
held (value.StreetName d) = First d
held (value.OrganizationName d) = First d
held (value.OrganizationalUnitName d) = First d
held (value.EmailAddress i) = Second (First i)
held (value.GivenName d) = First d
held (value.Phone d) = First d
held (value.Custom r) = Second (Second r)

-- the types of what is held; which of them it is, the object identifier says
abbrev pub held_types : {A : Type 0} → Shape (Held A)
held_types = choice directory_string (choice email raws)

-- what is written of a value
abbrev pub value_bytes : {A : Type 0} → AttributeTypeAndValueParameters A → List ℕ
value_bytes v = held_types.strict (held v)

-- the values: what they hold is a value of its type
abbrev pub IsValue : {A : Type 0} → AttributeTypeAndValueParameters A → Type 0
IsValue v = held_types.valid (held v)

-- how the values of a kind are spelled
abbrev pub by_kind : {A : Type 0} → AttributeKind → Shape (AttributeTypeAndValueParameters A)
by_kind (kind.Text a) = variant (text_value a) value_bytes IsValue directory_string
by_kind kind.Email = variant value.EmailAddress value_bytes IsValue email
by_kind kind.Other = variant value.Custom value_bytes IsValue raws

abbrev pub Fields : Type 0 → Type 0
Fields A = List ℕ × AttributeTypeAndValueParameters A

abbrev pub attribute_parts : {A : Type 0} → AttributeTypeAndValue A → Fields A
attribute_parts v = (v.ty, v.value)

-- type OBJECT IDENTIFIER, value ANY DEFINED BY type
abbrev pub attribute_inner : {A : Type 0} → Shape (Fields A)
attribute_inner =
    defined_by (λ c. c.0) (λ c. c.1) (tagged 6 oids) (λ arcs. by_kind (kind_of arcs)) (λ b. true) (λ b. false)

-- AttributeTypeAndValue ::= SEQUENCE { type AttributeType, value AttributeValue } (RFC 5280, 4.1.2.4)
abbrev pub attribute_base : {A : Type 0} → Shape (Fields A)
attribute_base = tagged 48 attribute_inner

abbrev pub attribute : {A : Type 0} → Shape (AttributeTypeAndValue A)
attribute = structure attribute_parts attribute_base

-- what is written in the SEQUENCE: the type and the value, also where they don't fit
abbrev pub attribute_bytes : {A : Type 0} → AttributeTypeAndValue A → List ℕ
attribute_bytes v = element 6 (oid_content v.ty) ++ value_bytes v.value

-- the attribute with its object identifier and a directory string
abbrev pub text_attribute : {A : Type 0} → NameAttr → DirectoryString A → AttributeTypeAndValue A
text_attribute a d = record { ty = arcs_of a; value = text_value a d }

-- the e-mail address with its object identifier
abbrev pub email_attribute : {A : Type 0} → List ℕ → AttributeTypeAndValue A
email_attribute i = record { ty = email_arcs; value = value.EmailAddress i }
