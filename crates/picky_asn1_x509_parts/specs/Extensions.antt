-- Extensions: an object identifier, which says what the value is, whether the extension is critical, and the value in an
-- OCTET STRING (RFC 5280, 4.2).
use Rattle.picky_asn1_x509_parts.specs.declared.extension_value.ExtensionKey.{ExtensionKey}
use Rattle.std.specs.Prelude.{◌≡◌, ℕ, ◌+◌, length, Bool, true, false, if◌then◌else◌, List, [], ◌∷◌, ◌++◌, Option, Some, None}
use Rattle.std.proofs.Common.{eqb}
use Rattle.x509_der.specs.Types.{Deviation}
use Rattle.x509_der.specs.Types.deviation
use Rattle.x509_der.specs.Boolean.{booleans, boolean_content}
use Rattle.x509_der.specs.DefinedBy.{defined_by}
use Rattle.x509_der.specs.Element.{element, header}
use Rattle.x509_der.specs.Fields.{FieldAt, Stands}
use Rattle.x509_der.specs.Integer.{integers}
use Rattle.x509_der.specs.Items.{items}
use Rattle.x509_der.specs.Join.{join}
use Rattle.x509_der.specs.ObjectIdentifier.{is_arcs, oids, oid_content}
use Rattle.x509_der.specs.Optional.{optional, optional_strict, OptionalAt}
use Rattle.x509_der.specs.PrimitiveContent.{octets}
use Rattle.x509_der.specs.Shape.{Shape}
use Rattle.x509_der.specs.Tagged.{tagged}
use Rattle.x509_der.specs.Tally.{Tally}
use Rattle.x509_der.specs.Variant.{variant}
use Rattle.x509_der.specs.View.{Meaning, seen}
use Rattle.picky_asn1_x509_parts.specs.BasicConstraints.{Constraints, basic_constraints}
use Rattle.picky_asn1_x509_parts.specs.AuthorityKeyIdentifier.{KeyAuthority, authority_key_identifier, authority_bytes}
use Rattle.picky_asn1_x509_parts.specs.ExtendedKeyUsage.{extended_key_usage}
use Rattle.picky_asn1_x509_parts.specs.KeyUsages.{key_usage}
use Rattle.x509_names.specs.declared.general_name.GeneralName.{GeneralName}
use Rattle.x509_names.specs.GeneralNames.{general_name}
use Rattle.picky_asn1_x509_parts.specs.declared.extension_value.ExtensionKind.{ExtensionKind}
use Rattle.picky_asn1_x509_parts.specs.declared.extension_value.ExtensionValue.{ExtensionValue}
use Rattle.picky_asn1_x509_parts.specs.declared.extension_view.ExtensionView.{ExtensionView}
use Rattle.picky_asn1_x509_parts.specs.declared.extension_value.ExtensionKind.TheVariants as kinds
use Rattle.picky_asn1_x509_parts.specs.declared.extension_value.ExtensionValue.TheVariants as value
use Rattle.picky_asn1_x509_parts.specs.declared.extension_view.ExtensionView.TheVariants as view

-- the object identifiers of the extensions whose values are known (RFC 5280, appendix A.2)
abbrev pub authority_key_arcs : List ℕ
authority_key_arcs = 2 ∷ 5 ∷ 29 ∷ 35 ∷ []

abbrev pub subject_key_arcs : List ℕ
subject_key_arcs = 2 ∷ 5 ∷ 29 ∷ 14 ∷ []

abbrev pub key_usage_arcs : List ℕ
key_usage_arcs = 2 ∷ 5 ∷ 29 ∷ 15 ∷ []

abbrev pub subject_name_arcs : List ℕ
subject_name_arcs = 2 ∷ 5 ∷ 29 ∷ 17 ∷ []

abbrev pub issuer_name_arcs : List ℕ
issuer_name_arcs = 2 ∷ 5 ∷ 29 ∷ 18 ∷ []

abbrev pub constraints_arcs : List ℕ
constraints_arcs = 2 ∷ 5 ∷ 29 ∷ 19 ∷ []

abbrev pub extended_usage_arcs : List ℕ
extended_usage_arcs = 2 ∷ 5 ∷ 29 ∷ 37 ∷ []

abbrev pub crl_number_arcs : List ℕ
crl_number_arcs = 2 ∷ 5 ∷ 29 ∷ 20 ∷ []

-- anyExtendedKeyUsage (RFC 5280, 4.2.1.12)
abbrev pub any_usage_arcs : List ℕ
any_usage_arcs = 2 ∷ 5 ∷ 29 ∷ 37 ∷ 0 ∷ []

-- the kind that arcs say
abbrev pub kind_of : List ℕ → ExtensionKind
kind_of arcs =
    if is_arcs arcs authority_key_arcs then kinds.AuthorityKeyIdentifier
    else if is_arcs arcs subject_key_arcs then kinds.SubjectKeyIdentifier
    else if is_arcs arcs key_usage_arcs then kinds.KeyUsage
    else if is_arcs arcs subject_name_arcs then kinds.SubjectAltName
    else if is_arcs arcs issuer_name_arcs then kinds.IssuerAltName
    else if is_arcs arcs constraints_arcs then kinds.BasicConstraints
    else if is_arcs arcs extended_usage_arcs then kinds.ExtendedKeyUsage
    else if is_arcs arcs crl_number_arcs then kinds.CrlNumber
    else kinds.Generic

-- the kind of a value
abbrev pub kind_in : {A : Type 0} → ExtensionValue A → ExtensionKind
kind_in (value.AuthorityKeyIdentifier k) = kinds.AuthorityKeyIdentifier
kind_in (value.SubjectKeyIdentifier o) = kinds.SubjectKeyIdentifier
kind_in (value.KeyUsage u) = kinds.KeyUsage
kind_in (value.SubjectAltName n) = kinds.SubjectAltName
kind_in (value.IssuerAltName n) = kinds.IssuerAltName
kind_in (value.BasicConstraints c) = kinds.BasicConstraints
kind_in (value.ExtendedKeyUsage u) = kinds.ExtendedKeyUsage
kind_in (value.Generic o) = kinds.Generic
kind_in (value.CrlNumber n) = kinds.CrlNumber

-- the value that a view lends
abbrev pub viewed : {A : Type 0} → ExtensionView A → ExtensionValue A
viewed (view.AuthorityKeyIdentifier k) = value.AuthorityKeyIdentifier k.now
viewed (view.SubjectKeyIdentifier o) = value.SubjectKeyIdentifier o.now
viewed (view.KeyUsage u) = value.KeyUsage u.now
viewed (view.SubjectAltName n) = value.SubjectAltName n.now
viewed (view.IssuerAltName n) = value.IssuerAltName n.now
viewed (view.BasicConstraints c) = value.BasicConstraints c.now
viewed (view.ExtendedKeyUsage u) = value.ExtendedKeyUsage u.now
viewed (view.Generic o) = value.Generic o.now
viewed (view.CrlNumber n) = value.CrlNumber n.now

-- what stands in the OCTET STRING, by kind
-- AuthorityKeyIdentifier (RFC 5280, 4.2.1.1)
abbrev pub authority_key : {A : Type 0} → Shape (KeyAuthority A)
authority_key = tagged 4 authority_key_identifier

-- SubjectKeyIdentifier ::= KeyIdentifier, an OCTET STRING (4.2.1.2)
abbrev pub subject_key : Shape (List ℕ)
subject_key = tagged 4 (tagged 4 octets)

-- KeyUsage (4.2.1.3)
abbrev pub usage : Shape (List Bool)
usage = tagged 4 key_usage

-- GeneralNames ::= SEQUENCE SIZE (1..MAX) OF GeneralName (4.2.1.6, 4.2.1.7); an empty list is read too
abbrev pub names : {A : Type 0} → Shape (List (GeneralName A))
names = tagged 4 (tagged 48 (items general_name))

-- BasicConstraints (4.2.1.9)
abbrev pub constraints : Shape Constraints
constraints = tagged 4 basic_constraints

-- ExtKeyUsageSyntax (4.2.1.12)
abbrev pub purposes : Shape (List (List ℕ))
purposes = tagged 4 extended_key_usage

-- CRLNumber ::= INTEGER (0..MAX) (5.2.3); negative numbers are read too
abbrev pub crl_number : Shape (List ℕ)
crl_number = tagged 4 (tagged 2 integers)

-- what isn't known: any octets
abbrev pub generic : Shape (List ℕ)
generic = tagged 4 octets

-- what is written of a value
abbrev pub value_bytes : {A : Type 0} → ExtensionValue A → List ℕ
value_bytes (value.AuthorityKeyIdentifier k) = element 4 (authority_bytes k)
value_bytes (value.SubjectKeyIdentifier o) = subject_key.strict o
value_bytes (value.KeyUsage u) = usage.strict u
value_bytes (value.SubjectAltName n) = names.strict n
value_bytes (value.IssuerAltName n) = names.strict n
value_bytes (value.BasicConstraints c) = constraints.strict c
value_bytes (value.ExtendedKeyUsage u) = purposes.strict u
value_bytes (value.Generic o) = generic.strict o
value_bytes (value.CrlNumber n) = crl_number.strict n

-- the values: what they hold is a value of its type
abbrev pub IsValue : {A : Type 0} → ExtensionValue A → Type 0
IsValue (value.AuthorityKeyIdentifier k) = authority_key.valid k
IsValue (value.SubjectKeyIdentifier o) = subject_key.valid o
IsValue (value.KeyUsage u) = usage.valid u
IsValue (value.SubjectAltName n) = names.valid n
IsValue (value.IssuerAltName n) = names.valid n
IsValue (value.BasicConstraints c) = constraints.valid c
IsValue (value.ExtendedKeyUsage u) = purposes.valid u
IsValue (value.Generic o) = generic.valid o
IsValue (value.CrlNumber n) = crl_number.valid n

-- what a value holds is read back as itself
abbrev pub IsReadable : {A : Type 0} → ExtensionValue A → Type 0
IsReadable (value.AuthorityKeyIdentifier k) = authority_key.readable k
IsReadable (value.SubjectKeyIdentifier o) = subject_key.readable o
IsReadable (value.KeyUsage u) = usage.readable u
IsReadable (value.SubjectAltName n) = names.readable n
IsReadable (value.IssuerAltName n) = names.readable n
IsReadable (value.BasicConstraints c) = constraints.readable c
IsReadable (value.ExtendedKeyUsage u) = purposes.readable u
IsReadable (value.Generic o) = generic.readable o
IsReadable (value.CrlNumber n) = crl_number.readable n

-- how the values of a kind are spelled
abbrev pub by_kind : {A : Type 0} → ExtensionKind → Shape (ExtensionValue A)
by_kind kinds.AuthorityKeyIdentifier = variant value.AuthorityKeyIdentifier value_bytes IsValue authority_key
by_kind kinds.SubjectKeyIdentifier = variant value.SubjectKeyIdentifier value_bytes IsValue subject_key
by_kind kinds.KeyUsage = variant value.KeyUsage value_bytes IsValue usage
by_kind kinds.SubjectAltName = variant value.SubjectAltName value_bytes IsValue names
by_kind kinds.IssuerAltName = variant value.IssuerAltName value_bytes IsValue names
by_kind kinds.BasicConstraints = variant value.BasicConstraints value_bytes IsValue constraints
by_kind kinds.ExtendedKeyUsage = variant value.ExtendedKeyUsage value_bytes IsValue purposes
by_kind kinds.Generic = variant value.Generic value_bytes IsValue generic
by_kind kinds.CrlNumber = variant value.CrlNumber value_bytes IsValue crl_number

-- what stands in front of a value: the object identifier, and whether it is critical, where that is spelled
abbrev pub Key : Type 0
Key = List ℕ × Option Bool

abbrev pub Fields : Type 0 → Type 0
Fields A = Key × ExtensionValue A

-- extnID OBJECT IDENTIFIER, critical BOOLEAN DEFAULT FALSE
abbrev pub key : Shape Key
key = join (λ k. k.0) (λ k. k.1) (tagged 6 oids) (optional (tagged 1 booleans))

-- what is kept of them
abbrev pub key_kept : Key → ExtensionKey
key_kept k = record { value = kind_of k.0; critical = k.1 }

-- and the value of the kind that the identifier says
abbrev pub inner : {A : Type 0} → Shape (Fields A)
inner = defined_by (λ c. c.0) (λ c. c.1) key (λ k. by_kind (kind_of k.0)) (λ b. eqb b 4) (λ b. false)

-- Extension ::= SEQUENCE { extnID OBJECT IDENTIFIER, critical BOOLEAN DEFAULT FALSE, extnValue OCTET STRING }
-- (RFC 5280, 4.1)
abbrev pub extension_base : {A : Type 0} → Shape (Fields A)
extension_base = tagged 48 inner

-- what is written of the fields
abbrev pub fields_bytes : {A : Type 0} → Fields A → List ℕ
fields_bytes f = (element 6 (oid_content f.0.0) ++ optional_strict (λ b. element 1 (boolean_content b)) f.0.1) ++ value_bytes f.1

-- the value is of the kind that the identifier says
abbrev pub AreFitting : {A : Type 0} → Fields A → Type 0
AreFitting f = kind_in f.1 ≡ kind_of f.0.0

-- the object identifier, whether it is critical, and the value
pub record ExtensionFields (A : Type 0) : Type 0 where
  pub extn_id : List ℕ
  pub critical : Bool
  pub extn_value : ExtensionValue A

-- the value is of the kind that the object identifier says, as in every extension
abbrev pub IsFitting : {A : Type 0} → ExtensionFields A → Type 0
IsFitting v = kind_in v.extn_value ≡ kind_of v.extn_id

-- what is left out is false
abbrev pub critical_of : Option Bool → Bool
critical_of None = false
critical_of (Some b) = b

abbrev pub written_critical : Bool → Option Bool
written_critical false = None
written_critical true = Some true

-- false that is spelled
abbrev pub critical_kinds : Option Bool → List Deviation
critical_kinds None = []
critical_kinds (Some true) = []
critical_kinds (Some false) = deviation.CriticalFalseSpelled ∷ []

abbrev pub extension_of : {A : Type 0} → Fields A → ExtensionFields A
extension_of b = record { extn_id = b.0.0; critical = critical_of b.0.1; extn_value = b.1 }

-- what the fields mean, and the deviation in them
abbrev pub extension_means : {A : Type 0} → Fields A → Option (ExtensionFields A × List Deviation)
extension_means b = Some (extension_of b, critical_kinds b.0.1)

-- the fields that are written
abbrev pub extension_back : {A : Type 0} → ExtensionFields A → Fields A
extension_back v = ((v.extn_id, written_critical v.critical), v.extn_value)

abbrev pub extension_meaning : {A : Type 0} → Meaning (Fields A) (ExtensionFields A)
extension_meaning = record { of = extension_means; back = extension_back; valid = λ v. inner.valid (extension_back v); readable = λ v. inner.readable (extension_back v) }

abbrev pub extension : {A : Type 0} → Shape (ExtensionFields A)
extension = seen extension_meaning extension_base

abbrev pub extension_bytes : {A : Type 0} → ExtensionFields A → List ℕ
extension_bytes v = element 48 (fields_bytes (extension_back v))

-- the fields of a spelling: the object identifier, whether it is critical, where that is spelled, and behind both the
-- value in the shape of its kind
pub record ExtensionAt {A : Type 0} (v : ExtensionFields A) (string : List ℕ) (y : Tally) : Type 0 where
  pub content : List ℕ
  pub bytes : string ≡ element 48 content
  pub keys : List ℕ
  pub values : List ℕ
  pub fields : content ≡ keys ++ values
  pub ids : List ℕ
  pub flags : List ℕ
  pub key_fields : keys ≡ ids ++ flags
  pub spelled : Option Bool
  pub means : critical_of spelled ≡ v.critical
  pub id_at : FieldAt (tagged 6 oids) v.extn_id (header content) ids string y
  pub critical_at : OptionalAt (tagged 1 booleans) spelled (header content + length ids) flags string y
  pub octets : List ℕ
  pub value_bytes : values ≡ element 4 octets
  pub value_at : Stands (by_kind (kind_of v.extn_id)) v.extn_value (header content + length keys) values string y

-- the extension of an identifier, critical or not, with its value
abbrev pub made : {A : Type 0} → List ℕ → Bool → ExtensionValue A → ExtensionFields A
made arcs critical v = record { extn_id = arcs; critical = critical; extn_value = v }

-- the extension, critical or not
abbrev pub with_critical : {A : Type 0} → ExtensionFields A → Bool → ExtensionFields A
with_critical v critical = record { extn_id = v.extn_id; critical = critical; extn_value = v.extn_value }
