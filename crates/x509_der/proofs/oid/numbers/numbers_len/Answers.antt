use Rattle.std.proofs.Common.{length, arith}
use Rattle.std.specs.List.{flat_map}
use Rattle.x509_der.specs.facts.Numbers.{part_fits}
use Rattle.x509_der.specs.ObjectIdentifier.{septets}
use Rattle.x509_der.proofs.oid.numbers.numbers_len.Goals as goal

pub returns-in_default : goal.returns-in_default
returns-in_default c =
    omega (arith, part_fits septets c.args.numbers.now c.loop-number.number-index c.loop-number.total (length (flat_map septets c.args.numbers.now)) 0 c.loop-number-test.true c.loop-number.invariant (omega arith), c.len.ensures, c.in_default.ensures)
