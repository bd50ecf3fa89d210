-- Lists of extensions (RFC 5280, 4.1).
use Rattle.std.specs.Prelude.{ℕ, List}
use Rattle.std.specs.List.{flat_map}
use Rattle.x509_der.specs.Element.{element}
use Rattle.x509_der.specs.Items.{items}
use Rattle.x509_der.specs.Shape.{Shape}
use Rattle.x509_der.specs.Tagged.{tagged}
use Rattle.picky_asn1_x509_parts.specs.Extensions.{ExtensionFields, extension, extension_bytes}

-- Extensions ::= SEQUENCE SIZE (1..MAX) OF Extension (RFC 5280, 4.1); an empty list is read too
abbrev pub extensions : {A : Type 0} → Shape (List (ExtensionFields A))
extensions = tagged 48 (items extension)

-- what is written of a list
abbrev pub extensions_bytes : {A : Type 0} → List (ExtensionFields A) → List ℕ
extensions_bytes es = element 48 (flat_map extension_bytes es)
