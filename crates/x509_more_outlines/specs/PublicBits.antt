-- The public key beside a private key (RFC 5958, 2).
use Rattle.std.specs.Prelude.{ℕ, Bool, List}
use Rattle.x509_der.specs.BitString.{bit_strings}
use Rattle.x509_der.specs.Choice.{choice}
use Rattle.x509_der.specs.Fields.{Stands}
use Rattle.x509_der.specs.Shape.{Shape}
use Rattle.x509_der.specs.Structure.{structure}
use Rattle.x509_der.specs.Tagged.{tagged}
use Rattle.x509_der.specs.Tally.{Tally}
use Rattle.x509_der.specs.Types.{Choice}
use Rattle.x509_der.specs.Types.choice.{First, Second}
use Rattle.x509_more_outlines.specs.declared.public_bits_outline.PublicBitsOutline.{PublicBitsOutline}
use Rattle.x509_more_outlines.specs.declared.public_bits_outline.PublicBitsOutline.TheVariants.{Implicit, Explicit}

-- the bits of each form
abbrev pub Bits : Type 0
Bits = List Bool

abbrev pub bits_parts : {A : Type 0} → PublicBitsOutline A → Choice Bits Bits
bits_parts (Implicit b) = First b
bits_parts (Explicit b) = Second b

-- publicKey [1] PublicKey, where the tags are IMPLICIT; PublicKey ::= BIT STRING (RFC 5958, 2)
abbrev pub implicit_bits : Shape Bits
implicit_bits = tagged 129 bit_strings

-- the same under an EXPLICIT tag, which the standard doesn't have
abbrev pub explicit_bits : Shape Bits
explicit_bits = tagged 161 (tagged 3 bit_strings)

abbrev pub bits_base : Shape (Choice Bits Bits)
bits_base = choice implicit_bits explicit_bits

abbrev pub public_bits : {A : Type 0} → Shape (PublicBitsOutline A)
public_bits = structure bits_parts bits_base

-- the form that was taken
abbrev pub BitsAt : {A : Type 0} → PublicBitsOutline A → List ℕ → Tally → Type 0
BitsAt (Implicit b) string y = Stands implicit_bits b 0 string string y
BitsAt (Explicit b) string y = Stands explicit_bits b 0 string string y
