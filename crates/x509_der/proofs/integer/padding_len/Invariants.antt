use Rattle.std.proofs.Common.{◌≡◌, ◌<◌, ◌-◌, length, drop}
use Rattle.x509_der.specs.Integer.{signed_value}
use Rattle.x509_der.proofs.integer.padding_len.Given as goal

abbrev pub invariant-padding : goal.invariant-padding
invariant-padding l = record {
  few : l.count < length l.bytes;
  number : signed_value (drop l.count l.bytes) ≡ signed_value l.bytes;
}

abbrev pub decreases-padding : goal.decreases-padding
decreases-padding l = length l.bytes - l.count
