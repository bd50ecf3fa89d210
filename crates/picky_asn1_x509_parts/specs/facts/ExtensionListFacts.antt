-- What is written of a list of extensions is its strict spelling.
use Rattle.std.proofs.Common.{◌≡◌, List, ap}
use Rattle.x509_der.specs.Element.{element}
use Rattle.x509_der.specs.laws.StrictSpelling.{agree_items}
use Rattle.picky_asn1_x509_parts.specs.Extensions.{ExtensionFields, extension, extension_bytes}
use Rattle.picky_asn1_x509_parts.specs.ExtensionLists.{extensions, extensions_bytes}
use Rattle.picky_asn1_x509_parts.specs.facts.ExtensionFacts.{extension_agrees}

pub extensions_agree : {A : Type 0} (es : List (ExtensionFields A)) → extensions.strict es ≡ extensions_bytes es
extensions_agree es = ap (element 48) (agree_items extension extension_bytes extension_agrees es)
