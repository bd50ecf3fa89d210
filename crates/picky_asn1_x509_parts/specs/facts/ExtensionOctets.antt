-- The value of an extension is one OCTET STRING, whatever its kind (RFC 5280, 4.1).
use Rattle.std.proofs.Common.{◌≡◌, ℕ, List}
use Rattle.x509_der.specs.Element.{element}
use Rattle.x509_der.specs.Tally.{Tally}
use Rattle.picky_asn1_x509_parts.specs.Extensions.{by_kind}
use Rattle.picky_asn1_x509_parts.specs.declared.extension_value.ExtensionKind.{ExtensionKind}
use Rattle.picky_asn1_x509_parts.specs.declared.extension_value.ExtensionKind.TheVariants as kinds
use Rattle.picky_asn1_x509_parts.specs.declared.extension_value.ExtensionValue.{ExtensionValue}

pub value_octets : {A : Type 0} (k : ExtensionKind) (v : ExtensionValue A) (p : List ℕ) (y : Tally) → (by_kind k).spelled v p y → (c : List ℕ) × (p ≡ element 4 c)
value_octets kinds.AuthorityKeyIdentifier v p y a = (a.spelled.content, a.spelled.bytes)
value_octets kinds.SubjectKeyIdentifier v p y a = (a.spelled.content, a.spelled.bytes)
value_octets kinds.KeyUsage v p y a = (a.spelled.content, a.spelled.bytes)
value_octets kinds.SubjectAltName v p y a = (a.spelled.content, a.spelled.bytes)
value_octets kinds.IssuerAltName v p y a = (a.spelled.content, a.spelled.bytes)
value_octets kinds.BasicConstraints v p y a = (a.spelled.content, a.spelled.bytes)
value_octets kinds.ExtendedKeyUsage v p y a = (a.spelled.content, a.spelled.bytes)
value_octets kinds.Generic v p y a = (a.spelled.content, a.spelled.bytes)
value_octets kinds.CrlNumber v p y a = (a.spelled.content, a.spelled.bytes)
