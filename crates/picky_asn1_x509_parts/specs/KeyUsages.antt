-- What a key may be used for, as a list of named bits (RFC 5280, 4.2.1.3).
use Rattle.std.specs.Prelude.{◌≡◌, ℕ, ◌+◌, ◌-◌, ◌<◌, Bool, false, List, ◌++◌, length, replicate, slice_set, Result, IsOk, OnOk, OnErr}
use Rattle.x509_der.specs.BitString.{bit_strings}
use Rattle.x509_der.specs.Shape.{Shape}
use Rattle.x509_der.specs.Tagged.{tagged}

-- KeyUsage ::= BIT STRING (RFC 5280, 4.2.1.3), its list of bits with any length
abbrev pub key_usage : Shape (List Bool)
key_usage = tagged 3 bit_strings

-- the list v, lengthened by false to at least i + 1 places, with x at place i
abbrev pub put : List Bool → ℕ → Bool → List Bool
put v i x = slice_set (v ++ replicate (i + 1 - length v) false) i x

-- what setting a bit does: the list has it, or memory was refused and the list is as it was, but never where it has the place
pub record SetsBit {T E : Type 0} (i : ℕ) (x : Bool) (old new : List Bool) (result : Result T E) : Type 0 where
  pub ok : OnOk result (new ≡ put old i x)
  pub err : OnErr result (new ≡ old)
  pub spares : i < length old → IsOk result
