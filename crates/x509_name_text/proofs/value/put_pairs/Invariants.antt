use Rattle.std.proofs.Common.{take}
use Rattle.x509_name_text.specs.Texts.{Writes, pairs_text}
use Rattle.x509_name_text.proofs.value.put_pairs.Given as goal

abbrev pub invariant-bytes : goal.invariant-bytes
invariant-bytes l = Writes (pairs_text (take l.byte-index l.bytes)) l.fn.at l.fn.out l.at l.out
