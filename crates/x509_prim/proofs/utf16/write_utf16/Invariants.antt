use Rattle.std.proofs.Common.{◌≡◌, ℕ, List, ◌++◌, length, encode_utf8_all}
use Rattle.std.specs.Fmt.{HasWritten, IsPlainFormatter}
use Rattle.x509_prim.specs.Utf16.{lossy_chars}
use Rattle.x509_prim.proofs.utf16.write_utf16.Given as goal

abbrev pub invariant-loop-rest : goal.invariant-loop-rest
invariant-loop-rest g l =
    IsPlainFormatter l.initial.f → (done : List ℕ) × HasWritten g.W.Write.write_str_gives l.initial.f done l.f
    × (done ++ encode_utf8_all (lossy_chars l.rest) ≡ encode_utf8_all (lossy_chars l.fn.bytes))

abbrev pub decreases-loop-rest : goal.decreases-loop-rest
decreases-loop-rest g l = length l.rest
