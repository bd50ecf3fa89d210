-- Which key signed a certificate (RFC 5280, 4.2.1.1): a list of fields, each under its own tag, of which the last of
-- each tag counts.
use Rattle.std.specs.Prelude.{ℕ, if◌then◌else◌, List, [], ◌∷◌, ◌++◌, Option, Some, None}
use Rattle.x509_der.specs.Types.{Choice, Deviation}
use Rattle.x509_der.specs.Types.choice.{First, Second}
use Rattle.x509_der.specs.Types.deviation
use Rattle.x509_der.specs.Choice.{choice}
use Rattle.x509_der.specs.Element.{element}
use Rattle.x509_der.specs.Integer.{integers}
use Rattle.x509_der.specs.Items.{items}
use Rattle.x509_der.specs.Lasts.{later, last, ascends}
use Rattle.x509_der.specs.Optional.{optional, optional_strict}
use Rattle.x509_der.specs.PrimitiveContent.{octets}
use Rattle.x509_der.specs.Shape.{Shape}
use Rattle.x509_der.specs.Tagged.{tagged}
use Rattle.x509_der.specs.View.{Meaning, seen}
use Rattle.x509_names.specs.declared.general_name.GeneralName.{GeneralName}
use Rattle.x509_names.specs.GeneralNames.{general_name}

-- an authority key identifier's three parts, each of which may be absent
pub record KeyAuthority (A : Type 0) : Type 0 where
  pub key_identifier : Option (List ℕ)
  pub issuer : Option (GeneralName A)
  pub serial_number : Option (List ℕ)

-- keyIdentifier [0] KeyIdentifier
abbrev pub key_field : Shape (List ℕ)
key_field = tagged 128 octets

-- authorityCertIssuer [1] GeneralNames, of exactly one name
abbrev pub issuer_field : {A : Type 0} → Shape (GeneralName A)
issuer_field = tagged 161 general_name

-- authorityCertSerialNumber [2] CertificateSerialNumber
abbrev pub serial_field : Shape (List ℕ)
serial_field = tagged 130 integers

abbrev pub Part : Type 0 → Type 0
Part A = Choice (List ℕ) (Choice (GeneralName A) (List ℕ))

-- one field, by its tag
abbrev pub part : {A : Type 0} → Shape (Part A)
part = choice key_field (choice issuer_field serial_field)

-- the fields in the SEQUENCE
abbrev pub authority_base : {A : Type 0} → Shape (List (Part A))
authority_base = tagged 48 (items part)

-- what a field has under each tag
abbrev pub key_in : {A : Type 0} → Part A → Option (List ℕ)
key_in (First k) = Some k
key_in (Second p) = None

abbrev pub issuer_in : {A : Type 0} → Part A → Option (GeneralName A)
issuer_in (First k) = None
issuer_in (Second (First n)) = Some n
issuer_in (Second (Second s)) = None

abbrev pub serial_in : {A : Type 0} → Part A → Option (List ℕ)
serial_in (First k) = None
serial_in (Second (First n)) = None
serial_in (Second (Second s)) = Some s

-- the number of a field's tag
abbrev pub number : {A : Type 0} → Part A → ℕ
number (First k) = 0
number (Second (First n)) = 1
number (Second (Second s)) = 2

-- one deviation where the fields aren't strictly ascending by their tags, so also where one repeats
abbrev pub order_kinds : {A : Type 0} → List (Part A) → List Deviation
order_kinds ps = if ascends number ps then [] else deviation.AuthorityKeyFieldOrder ∷ []

-- the last field of each tag
abbrev pub authority_of : {A : Type 0} → List (Part A) → KeyAuthority A
authority_of ps = record { key_identifier = last key_in ps; issuer = last issuer_in ps; serial_number = last serial_in ps }

abbrev pub authority_means : {A : Type 0} → List (Part A) → Option (KeyAuthority A × List Deviation)
authority_means ps = Some (authority_of ps, order_kinds ps)

-- a field, where it is there
abbrev pub there : {A V : Type 0} → (V → Part A) → Option V → List (Part A)
there make None = []
there make (Some v) = make v ∷ []

abbrev pub back_of : {A : Type 0} → Option (List ℕ) → Option (GeneralName A) → Option (List ℕ) → List (Part A)
back_of k n s = there (λ v. First v) k ++ (there (λ v. Second (First v)) n ++ there (λ v. Second (Second v)) s)

-- the fields that are written: those that are there, by their tags
abbrev pub authority_back : {A : Type 0} → KeyAuthority A → List (Part A)
authority_back v = back_of v.key_identifier v.issuer v.serial_number

-- the octets are bytes, the integer is minimal, and the name one of its type
abbrev pub IsAuthority : {A : Type 0} → KeyAuthority A → Type 0
IsAuthority v = (optional key_field).valid v.key_identifier × ((optional issuer_field).valid v.issuer × (optional serial_field).valid v.serial_number)

abbrev pub authority_meaning : {A : Type 0} → Meaning (List (Part A)) (KeyAuthority A)
authority_meaning = record {
  of = authority_means;
  back = authority_back;
  valid = IsAuthority;
  readable = λ v. (optional issuer_field).readable v.issuer;
}

-- AuthorityKeyIdentifier ::= SEQUENCE {
--   keyIdentifier [0] KeyIdentifier OPTIONAL,
--   authorityCertIssuer [1] GeneralNames OPTIONAL,
--   authorityCertSerialNumber [2] CertificateSerialNumber OPTIONAL }
-- with implicit tags, and one name in the GeneralNames
abbrev pub authority_key_identifier : {A : Type 0} → Shape (KeyAuthority A)
authority_key_identifier = seen authority_meaning authority_base

-- what is written: the three fields, of which each may be absent
abbrev pub authority_bytes : {A : Type 0} → KeyAuthority A → List ℕ
authority_bytes v = element 48 (optional_strict key_field.strict v.key_identifier ++ (optional_strict issuer_field.strict v.issuer ++ optional_strict serial_field.strict v.serial_number))

-- one field more
abbrev pub with_part : {A : Type 0} → KeyAuthority A → Part A → KeyAuthority A
with_part v p = record { key_identifier = later (key_in p) v.key_identifier; issuer = later (issuer_in p) v.issuer; serial_number = later (serial_in p) v.serial_number }
