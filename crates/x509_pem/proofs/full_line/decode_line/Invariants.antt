use Rattle.std.proofs.Common.{◌≡◌, ◌*◌, length}
use Rattle.x509_pem.specs.Group.{DecodedTo}
use Rattle.x509_pem.proofs.full_line.decode_line.Given as goal

abbrev pub invariant-fours : goal.invariant-fours
invariant-fours l = (length l.bytes ≡ 48) × DecodedTo l.line l.bytes (4 * l.four)
