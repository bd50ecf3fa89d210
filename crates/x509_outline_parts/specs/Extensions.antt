-- Extensions whose values are octets (RFC 5280, 4.1), and lists of them.
use Rattle.std.proofs.Common.{◌≡◌, ℕ, Bool, true, false, List, [], ◌∷◌, Option, Some, None}
use Rattle.x509_der.specs.Boolean.{booleans}
use Rattle.x509_der.specs.Element.{element, header}
use Rattle.x509_der.specs.Fields.{Stands}
use Rattle.x509_der.specs.Items.{items, ItemsAt}
use Rattle.x509_der.specs.Join.{join}
use Rattle.x509_der.specs.ObjectIdentifier.{oids}
use Rattle.x509_der.specs.Optional.{optional}
use Rattle.x509_der.specs.PrimitiveContent.{octets}
use Rattle.x509_der.specs.Shape.{Shape}
use Rattle.x509_der.specs.Tagged.{tagged}
use Rattle.x509_der.specs.Tally.{Tally}
use Rattle.x509_der.specs.Types.{Deviation}
use Rattle.x509_der.specs.Types.deviation
use Rattle.x509_der.specs.View.{Meaning, seen}
use Rattle.x509_outline_parts.specs.declared.extension_outline.ExtensionOutline.{ExtensionOutline}

-- the arcs of the identifier, whether it is critical, where that is spelled, and the octets
abbrev pub Fields : Type 0
Fields = List ℕ × (Option Bool × List ℕ)

-- extnID OBJECT IDENTIFIER, critical BOOLEAN DEFAULT FALSE, extnValue OCTET STRING
abbrev pub extension_inner : Shape Fields
extension_inner =
    join (λ j. j.0) (λ j. j.1) (tagged 6 oids)
    (join (λ j. j.0) (λ j. j.1) (optional (tagged 1 booleans)) (tagged 4 octets))

-- Extension ::= SEQUENCE { extnID OBJECT IDENTIFIER, critical BOOLEAN DEFAULT FALSE, extnValue OCTET STRING } (RFC 5280,
-- 4.1)
abbrev pub extension_base : Shape Fields
extension_base = tagged 48 extension_inner

-- what is left out is the default
abbrev pub critical_of : Option Bool → Bool
critical_of None = false
critical_of (Some b) = b

-- the default is left out (X.690, 11.5)
abbrev pub written_critical : Bool → Option Bool
written_critical false = None
written_critical true = Some true

-- the default that is spelled
abbrev pub critical_kinds : Option Bool → List Deviation
critical_kinds None = []
critical_kinds (Some true) = []
critical_kinds (Some false) = deviation.CriticalFalseSpelled ∷ []

abbrev pub extension_of : {A : Type 0} → Fields → ExtensionOutline A
extension_of f = record { extn_id = f.0; critical = critical_of f.1.0; extn_value = f.1.1 }

-- what the fields mean, and the deviation in them
abbrev pub extension_means : {A : Type 0} → Fields → Option (ExtensionOutline A × List Deviation)
extension_means f = Some (extension_of f, critical_kinds f.1.0)

-- the fields that are written
abbrev pub extension_back : {A : Type 0} → ExtensionOutline A → Fields
extension_back v = (v.extn_id, (written_critical v.critical, v.extn_value))

abbrev pub extension_meaning : {A : Type 0} → Meaning Fields (ExtensionOutline A)
extension_meaning = record {
  of = extension_means;
  back = extension_back;
  valid = λ v. extension_inner.valid (extension_back v);
  readable = λ v. extension_inner.readable (extension_back v);
}

abbrev pub extension : {A : Type 0} → Shape (ExtensionOutline A)
extension = seen extension_meaning extension_base

-- Extensions ::= SEQUENCE SIZE (1..MAX) OF Extension (RFC 5280, 4.1); an empty list is read too
abbrev pub extensions : {A : Type 0} → Shape (List (ExtensionOutline A))
extensions = tagged 48 (items extension)

-- the identifier right behind the header, the criticality, where it is spelled, and the octets behind it
pub record ExtensionAt {A : Type 0} (v : ExtensionOutline A) (string : List ℕ) (y : Tally) : Type 0 where
  pub content : List ℕ
  pub bytes : string ≡ element 48 content
  pub spelled : Option Bool
  pub means : critical_of spelled ≡ v.critical
  pub fields : Stands extension_inner (v.extn_id, (spelled, v.extn_value)) (header content) content string y

-- the extensions one behind another
pub record ExtensionsAt {A : Type 0} (list : List (ExtensionOutline A)) (string : List ℕ) (y : Tally) : Type 0 where
  pub content : List ℕ
  pub bytes : string ≡ element 48 content
  pub items_at : ItemsAt extension string y list (header content) content
