use Rattle.std.proofs.Common.{◌≡◌, ◌≤◌, length}
use Rattle.x509_der.specs.Element.{AreBytes}
use Rattle.x509_der.specs.Integer.{unsigned_value}
use Rattle.x509_flat_values.proofs.numbers.bit_length.Given as goal

abbrev pub invariant-zeros : goal.invariant-zeros
invariant-zeros l = (unsigned_value l.rest ≡ unsigned_value l.digits) × (length l.rest ≤ length l.digits) × AreBytes l.rest

abbrev pub decreases-zeros : goal.decreases-zeros
decreases-zeros l = length l.rest
