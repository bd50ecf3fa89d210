-- What is told of the attributes of a name (RFC 5280, 4.1.2.4).
use Rattle.std.specs.Prelude.{◌≡◌, ℕ, ◌+◌, List, [], ◌∷◌, ◌++◌, length}
use Rattle.x509_der.specs.Element.{element, header}
use Rattle.x509_der.specs.Fields.{FieldAt}
use Rattle.x509_der.specs.Items.{ItemsAt}
use Rattle.x509_der.specs.ObjectIdentifier.{oids}
use Rattle.x509_der.specs.Tagged.{tagged, ContentAt}
use Rattle.x509_der.specs.Tally.{Tally}
use Rattle.x509_names.specs.Attributes.{attribute, by_kind, kind_of}
use Rattle.x509_names.specs.Names.{Set, Sets, name, name_content, relative_name}
use Rattle.x509_names.specs.declared.attribute_type_and_value.AttributeTypeAndValue.{AttributeTypeAndValue}
use Rattle.x509_fields.specs.Spans.{FieldIn}
use Rattle.x509_fields.specs.declared.span.Span.{Span}
use Rattle.x509_values.specs.Rests.{Rest}
use Rattle.x509_values.specs.Told.{HeldIn, EachTold, Fills, Parted, filled}
use Rattle.x509_values.specs.declared.attributes.AttributePlace.{AttributePlace}

-- of an attribute in the slice, which stands behind so many bytes: the number of its set; the content of its type, which is an OBJECT IDENTIFIER; and the tag and the content of its value
pub record AttributeTold {A : Type 0} (number : ℕ) (string : List ℕ) (whole : Tally) (v : AttributeTypeAndValue A) (n : ℕ) (slice : List ℕ) (at : AttributePlace) : Type 0 where
  pub content : List ℕ
  pub types : List ℕ
  pub values : List ℕ
  pub bytes : slice ≡ element 48 content
  pub fields : content ≡ types ++ values
  pub type_at : FieldAt (tagged 6 oids) v.ty (n + header content) types string whole
  pub value_at : FieldAt (by_kind (kind_of v.ty)) v.value ((n + header content) + length types) values string whole
  pub set : at.set ≡ number
  pub identifier : HeldIn 6 types (n + header content) at.identifier
  pub value : HeldIn at.tag values ((n + header content) + length types) at.value

-- of the attributes of a set, in order and none left out
abbrev pub SetTold : {A : Type 0} (number : ℕ) (string : List ℕ) (whole : Tally) (set : Set A) (n : ℕ) (slice : List ℕ) → ItemsAt attribute string whole set n slice → List AttributePlace → Type 0
SetTold {A} number string whole = EachTold (attribute {A = A}) string whole (AttributeTold number string whole)

-- of all sets, which are numbered from one on
abbrev pub SetsTold : {A : Type 0} (number : ℕ) (string : List ℕ) (whole : Tally) (sets : Sets A) (n : ℕ) (slice : List ℕ) → ItemsAt relative_name string whole sets n slice → List AttributePlace → Type 0
SetsTold number string whole [] n slice h places = places ≡ []
SetsTold number string whole (set ∷ sets) n slice h places =
    Parted
    (SetTold number string whole set (n + header h.first.parts.content) h.first.parts.content h.first.parts.inner.parts)
    (SetsTold (number + 1) string whole sets (n + length h.front) h.back h.second)
    places

-- a name stands in the slice of a string, and its attributes are told, of the set 0 first
pub record NameTold {A : Type 0} (v : Sets A) (n : ℕ) (slice string : List ℕ) (whole : Tally) (places : List AttributePlace) : Type 0 where
  pub name : ContentAt 48 name_content v n slice string whole
  pub attributes : SetsTold 0 string whole v (n + header name.content) name.content name.inner.parts places

-- what is left are the attributes of a set that stands there; the first are told behind those that were told before
abbrev pub PutsSet : (A : Type 0) (number : ℕ) (now : Rest) (count : ℕ) (old new : List AttributePlace) (result : ℕ) → Type 0
PutsSet A number now count old new result =
    (set : Set A) (n : ℕ) (slice string : List ℕ) (whole : Tally) (h : ItemsAt attribute string whole set n slice) → now.rest ≡ slice → now.at ≡ n →
    (done base : List AttributePlace) → count ≡ length done → old ≡ filled done base →
    Fills (λ places. Parted (λ p. p ≡ done) (SetTold number string whole set n slice h) places) base new result

-- whatever name the span of the string encodes, its attributes are told
abbrev pub NameWithin : (A : Type 0) → List ℕ → Span → List AttributePlace → List AttributePlace → ℕ → Type 0
NameWithin A string span old new count =
    (v : Sets A) (whole : Tally) (f : FieldIn name v span string whole) → Fills (NameTold v span.start f.slice string whole) old new count
