use Rattle.std.proofs.Common.{◌≡◌, ◌++◌, length}
use Rattle.x509_pem_writer.specs.Blocks.{lines_of}
use Rattle.x509_pem_writer.proofs.put_lines.Given as goal

abbrev pub invariant-lines : goal.invariant-lines
invariant-lines g l = l.text.items ++ lines_of l.rest ≡ l.fn.text.items ++ lines_of l.symbols

abbrev pub decreases-lines : goal.decreases-lines
decreases-lines g l = length l.rest
