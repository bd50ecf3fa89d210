-- What is told of the first extension with an identifier (RFC 5280, 4.2).
use Rattle.std.specs.Prelude.{◌≡◌, ℕ, ◌+◌, List, length, Option, Some, None}
use Rattle.x509_der.specs.Element.{header}
use Rattle.x509_der.specs.Fields.{FieldAt}
use Rattle.x509_der.specs.ObjectIdentifier.{oid_content}
use Rattle.x509_der.specs.Tagged.{ContentAt}
use Rattle.x509_der.specs.Items.{items}
use Rattle.x509_der.specs.Tally.{Tally}
use Rattle.picky_asn1_x509.specs.Extensions.{ExtensionFields, ExtensionAt, extension}
use Rattle.picky_asn1_x509.specs.ExtensionLists.{extensions}
use Rattle.x509_fields.specs.Spans.{FieldIn}
use Rattle.x509_fields.specs.declared.span.Span.{Span}
use Rattle.x509_values.specs.Told.{HeldIn, FirstTold}

-- the content of its identifier is this
abbrev pub HasIdentifier : {A : Type 0} → List ℕ → ExtensionFields A → Type 0
HasIdentifier identifier v = oid_content v.extn_id ≡ identifier

-- of an extension in the slice, which stands behind so many bytes: the content of its value's OCTET STRING
pub record ValueTold {A : Type 0} (string : List ℕ) (whole : Tally) (v : ExtensionFields A) (n : ℕ) (slice : List ℕ) (at : Span) : Type 0 where
  pub here : FieldAt extension v n slice string whole
  pub fields : ExtensionAt v slice here.tally
  pub value : HeldIn 4 fields.values ((n + header fields.content) + length fields.keys) at

-- the list stands in the slice of a string, and the first extension with the identifier is told, or that there is none
pub record ExtensionFound {A : Type 0} (identifier : List ℕ) (v : List (ExtensionFields A)) (n : ℕ) (slice string : List ℕ) (whole : Tally) (at : Option Span) : Type 0 where
  pub list : ContentAt 48 (items extension) v n slice string whole
  pub first : FirstTold extension string whole (HasIdentifier identifier) (ValueTold string whole) v (n + header list.content) list.content list.inner.parts at

-- whatever list the span of the string encodes
abbrev pub FindsIn : (A : Type 0) → List ℕ → Span → List ℕ → Option Span → Type 0
FindsIn A string span identifier at =
    (v : List (ExtensionFields A)) (whole : Tally) (f : FieldIn extensions v span string whole) → ExtensionFound identifier v span.start f.slice string whole at

-- the same of one extension: told where it has the identifier
abbrev pub ToldIf : {A : Type 0} → List ℕ → List ℕ → Tally → ExtensionFields A → ℕ → List ℕ → Option Span → Type 0
ToldIf identifier string whole v n slice (Some at) = HasIdentifier identifier v × ValueTold string whole v n slice at
ToldIf identifier string whole v n slice None = HasIdentifier identifier v → ⊥
