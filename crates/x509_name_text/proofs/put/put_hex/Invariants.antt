use Rattle.std.proofs.Common.{take}
use Rattle.x509_name_text.specs.Texts.{Writes, hex_text}
use Rattle.x509_name_text.proofs.put.put_hex.Given as goal

abbrev pub invariant-bytes : goal.invariant-bytes
invariant-bytes l = Writes (hex_text l.is_upper (take l.byte-index l.bytes)) l.fn.at l.fn.out l.at l.out
