use Rattle.std.proofs.Common.{◌≡◌, ◌+◌, ◌≤◌, length, take, drop, ◌++◌}
use Rattle.std.specs.List.{flat_map}
use Rattle.x509_der.specs.ObjectIdentifier.{septets}
use Rattle.x509_der.proofs.oid.numbers.write_numbers.Given as goal

abbrev pub invariant-loop-left : goal.invariant-loop-left
invariant-loop-left l = record {
  within : l.left ≤ length l.numbers;
  place : l.start + length (flat_map septets (drop l.left l.numbers)) ≡ length l.initial.out;
  bytes : l.out ≡ take l.start l.initial.out ++ flat_map septets (drop l.left l.numbers);
}

abbrev pub decreases-loop-left : goal.decreases-loop-left
decreases-loop-left l = l.left
