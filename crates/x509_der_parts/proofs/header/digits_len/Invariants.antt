use Rattle.std.proofs.Common.{◌≡◌, ◌+◌, ◌≤◌, length}
use Rattle.x509_der_parts.specs.Element.{base}
use Rattle.x509_der_parts.proofs.header.digits_len.Given as goal

abbrev pub invariant-loop-rest : goal.invariant-loop-rest
invariant-loop-rest l = record {
  same : l.count + length (base l.rest) ≡ 1 + length (base l.len);
  few : l.count ≤ 9;
}

abbrev pub decreases-loop-rest : goal.decreases-loop-rest
decreases-loop-rest l = l.rest
