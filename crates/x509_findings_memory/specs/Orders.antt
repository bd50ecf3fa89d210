-- The order in which DER has the components of a SET OF (X.690, 11.6).
use Rattle.std.specs.Prelude.{◌≡◌, ◌<◌, ◌+◌, ℕ, List, length, slice_index_or, Any}
use Rattle.x509_names.specs.Attributes.{attribute}
use Rattle.x509_names.specs.Names.{Set, Sets}
use Rattle.x509_names.specs.declared.attribute_type_and_value.AttributeTypeAndValue.{AttributeTypeAndValue}

-- an octet of an encoding: the shorter of two is padded with 0 octets, to be compared
abbrev pub octet_at : List ℕ → ℕ → ℕ
octet_at encoding place = slice_index_or encoding place 0

-- the second of two encodings is the lesser one, by the first octets that differ
pub record Descends (first second : List ℕ) : Type 0 where
  pub place : ℕ
  pub same : (i : ℕ) → i < place → octet_at first i ≡ octet_at second i
  pub less : octet_at second place < octet_at first place

-- the attribute at a place of a set and the one behind it
unfoldable pub DescendsAt : {A : Type 0} → Set A → ℕ → Type 0
DescendsAt {A} set index = (d : AttributeTypeAndValue A) → Descends (attribute.strict (slice_index_or set index d)) (attribute.strict (slice_index_or set (index + 1) d))

-- an attribute of a set stands in front of a lesser one
pub record IsUnsorted {A : Type 0} (set : Set A) : Type 0 where
  pub index : ℕ
  pub within : index + 1 < length set
  pub descends : DescendsAt set index

-- so it is in a set of a name
abbrev pub HasUnsorted : {A : Type 0} → Sets A → Type 0
HasUnsorted sets = Any IsUnsorted sets
