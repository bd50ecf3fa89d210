use Rattle.std.proofs.Common.{take}
use Rattle.x509_pem.specs.Decoding.{SoFar}
use Rattle.x509_pem.specs.Text.{solid}
use Rattle.x509_pem.proofs.decoding.decode_in.Given as goal

abbrev pub invariant-bytes : goal.invariant-bytes
invariant-bytes l = SoFar (solid (take l.byte-index l.text)) l.symbols l.initial.out l.out
