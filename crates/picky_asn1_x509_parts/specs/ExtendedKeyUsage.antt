-- What a certified key is for (RFC 5280, 4.2.1.12).
use Rattle.std.specs.Prelude.{◌≡◌, ℕ, List}
use Rattle.x509_der.specs.Element.{element, header}
use Rattle.x509_der.specs.Items.{items, ItemsAt}
use Rattle.x509_der.specs.ObjectIdentifier.{oids}
use Rattle.x509_der.specs.Shape.{Shape}
use Rattle.x509_der.specs.Tagged.{tagged}
use Rattle.x509_der.specs.Tally.{Tally}

-- KeyPurposeId ::= OBJECT IDENTIFIER
abbrev pub key_purpose : Shape (List ℕ)
key_purpose = tagged 6 oids

abbrev pub key_purposes : Shape (List (List ℕ))
key_purposes = items key_purpose

-- ExtKeyUsageSyntax ::= SEQUENCE OF KeyPurposeId; the standard's lower bound of one isn't asked
abbrev pub extended_key_usage : Shape (List (List ℕ))
extended_key_usage = tagged 48 key_purposes

-- the purposes one behind another in the SEQUENCE
pub record PurposesAt (list : List (List ℕ)) (string : List ℕ) (y : Tally) : Type 0 where
  pub content : List ℕ
  pub sequence : string ≡ element 48 content
  pub purposes : ItemsAt key_purpose string y list (header content) content
