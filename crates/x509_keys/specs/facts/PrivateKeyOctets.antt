-- A private key behind its algorithm is one OCTET STRING, whatever its kind (RFC 5958, 2).
use Rattle.std.proofs.Common.{◌≡◌, ℕ, List}
use Rattle.x509_der.specs.Element.{element}
use Rattle.x509_der.specs.Tally.{Tally}
use Rattle.x509_keys.specs.PrivateKeyValues.{private_by_kind}
use Rattle.x509_keys_parts.specs.declared.key_kind.KeyKind.{KeyKind}
use Rattle.x509_keys_parts.specs.declared.key_kind.KeyKind.TheVariants as kinds
use Rattle.x509_keys.specs.declared.private_key_value.PrivateKeyValue.{PrivateKeyValue}

pub private_octets : {A : Type 0} (k : KeyKind) (v : PrivateKeyValue A) (p : List ℕ) (y : Tally) → (private_by_kind k).spelled v p y → (c : List ℕ) × (p ≡ element 4 c)
private_octets kinds.Rsa v p y a = (a.spelled.content, a.spelled.bytes)
private_octets kinds.Ec v p y a = (a.spelled.content, a.spelled.bytes)
private_octets kinds.Ed v p y a = (a.spelled.content, a.spelled.bytes)
private_octets kinds.Mldsa v p y a = absurd a
private_octets kinds.Unknown v p y a = absurd a
