-- Alternative names of the subject (RFC 5280, 4.2.1.6).
use Rattle.std.specs.Prelude.{Option, Some, None}
use Rattle.picky_asn1_x509.specs.Extensions.{names}
use Rattle.picky_asn1_x509.specs.Shape.{Shape}
use Rattle.picky_asn1_x509.specs.Types.{ExtensionValue}
use Rattle.picky_asn1_x509.specs.Types.extension_value as value

-- the values of a shape
abbrev pub ValuesOf : (V : Type 0) → Shape V → Type 0
ValuesOf V shape = V

-- the names in the value of an extension, where it is one of alternative names
abbrev pub names_in : {A : Type 0} → ExtensionValue A → Option (ValuesOf _ (names {A = A}))
names_in (value.SubjectAltName held) = Some held
names_in other = None
