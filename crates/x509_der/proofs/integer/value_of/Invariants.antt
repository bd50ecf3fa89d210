use Rattle.std.proofs.Common.{◌≡◌, drop}
use Rattle.x509_der_parts.specs.Element.{value_from}
use Rattle.x509_der.proofs.integer.value_of.Given as goal

abbrev pub invariant-loop-digit : goal.invariant-loop-digit
invariant-loop-digit l = value_from l.number (drop l.digit-index l.digits) ≡ value_from 0 l.digits
