use Rattle.std.proofs.Common.{◌≡◌, ◌≤◌, take, length}
use Rattle.x509_pem.specs.Text.{solid}
use Rattle.x509_pem.proofs.white.solid_len.Given as goal

abbrev pub invariant-bytes : goal.invariant-bytes
invariant-bytes l =
    record { counted : l.len ≡ length (solid (take l.byte-index l.bytes)); bound : l.len ≤ l.byte-index }
