-- Names whose attributes have any element as value (RFC 5280, 4.1.2.4).
use Rattle.std.proofs.Common.{◌≡◌, ℕ, List}
use Rattle.x509_der.specs.Element.{element, header}
use Rattle.x509_der.specs.Items.{items, ItemsAt}
use Rattle.x509_der.specs.Shape.{Shape}
use Rattle.x509_der.specs.Tagged.{tagged}
use Rattle.x509_der.specs.Tally.{Tally}
use Rattle.x509_outline_parts.specs.Attributes.{attribute}
use Rattle.x509_outline_parts.specs.declared.attribute_outline.AttributeOutline.{AttributeOutline}

-- sets of attributes, in order
abbrev pub Sets : Type 0 → Type 0
Sets A = List (List (AttributeOutline A))

-- RelativeDistinguishedName ::= SET SIZE (1..MAX) OF AttributeTypeAndValue; an empty set is read too, and the order of
-- the attributes is kept
abbrev pub relative_name : {A : Type 0} → Shape (List (AttributeOutline A))
relative_name = tagged 49 (items attribute)

-- Name ::= CHOICE { rdnSequence RDNSequence }, RDNSequence ::= SEQUENCE OF RelativeDistinguishedName (RFC 5280, 4.1.2.4)
abbrev pub name : {A : Type 0} → Shape (Sets A)
name = tagged 48 (items relative_name)

-- the sets one behind another
pub record NameAt {A : Type 0} (sets : Sets A) (string : List ℕ) (y : Tally) : Type 0 where
  pub content : List ℕ
  pub bytes : string ≡ element 48 content
  pub sets_at : ItemsAt relative_name string y sets (header content) content
