-- Types whose values are some of those of a base: other values of the base are refused. There are no deviations over the whole.
use Rattle.std.proofs.Common.{List, [], Option, Some, None}
use Rattle.x509_der.specs.Types.{Deviation}
use Rattle.x509_der.specs.Shape.{Shape}
use Rattle.x509_der.specs.View.{Meaning}

abbrev pub unmarked : {V : Type 0} → Option V → Option (V × List Deviation)
unmarked None = None
unmarked (Some v) = Some (v, [])

-- of says what a base value means, if anything; back is the base value of a value
abbrev pub partly : {B V : Type 0} → (B → Option V) → (V → B) → Shape B → Meaning B V
partly of back s = record { of = λ b. unmarked (of b); back = back; valid = λ v. s.valid (back v); readable = λ v. s.readable (back v) }
