use Rattle.std.proofs.Common.{◌≡◌, length, take}
use Rattle.std.specs.List.{flat_map}
use Rattle.x509_der.specs.ObjectIdentifier.{septets}
use Rattle.x509_der.proofs.oid.numbers.numbers_len.Given as goal

abbrev pub invariant-loop-number : goal.invariant-loop-number
invariant-loop-number l = l.total ≡ length (flat_map septets (take l.number-index l.numbers))
