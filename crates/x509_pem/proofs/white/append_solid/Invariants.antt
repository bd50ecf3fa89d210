use Rattle.std.proofs.Common.{◌≡◌, ◌++◌, take}
use Rattle.x509_pem.specs.Text.{solid}
use Rattle.x509_pem.proofs.white.append_solid.Given as goal

abbrev pub invariant-bytes : goal.invariant-bytes
invariant-bytes g l = l.text.items ≡ l.initial.text.items ++ solid (take l.byte-index l.bytes)
