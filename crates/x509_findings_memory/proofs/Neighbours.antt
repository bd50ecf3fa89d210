-- Neighbours in sets.
use Rattle.std.proofs.Common.{◌≡◌, ◌<◌, ◌+◌, ℕ, List, length, slice_index_or, sym, ◌∙◌, arith}
use Rattle.std.proofs.lemmas.List.{get_or_default}
use Rattle.x509_names.specs.Attributes.{attribute}
use Rattle.x509_names.specs.Names.{Set}
use Rattle.x509_names.specs.declared.attribute_type_and_value.AttributeTypeAndValue.{AttributeTypeAndValue}
use Rattle.x509_findings_memory.specs.Orders.{Descends, DescendsAt}

-- whatever stands in for what isn't there
at_is : {A : Type 0} (set : Set A) (i : ℕ) (a d : AttributeTypeAndValue A) → i < length set → a ≡ slice_index_or set i a → slice_index_or set i d ≡ a
at_is set i a d b e = get_or_default set i d a b ∙ sym e

-- the encodings of two neighbours
pub pair : {A : Type 0} (set : Set A) (i : ℕ) (a b : AttributeTypeAndValue A) (x y : List ℕ) → i + 1 < length set → a ≡ slice_index_or set i a → b ≡ slice_index_or set (i + 1) b → x ≡ attribute.strict a → y ≡ attribute.strict b → (Descends x y → DescendsAt set i) × (DescendsAt set i → Descends x y)
unfolding DescendsAt
pair set i a b x y h e f p q = (
  λ s d. rw (at_is set i a d (omega (arith, h)) e, at_is set (i + 1) b d h f, ← p, ← q) s,
  λ s. rw (p, q, ← at_is set i a a (omega (arith, h)) e, ← at_is set (i + 1) b a h f) (s a),
)
