use Rattle.std.proofs.Common.{◌∙◌, arith}
use Rattle.std.proofs.lemmas.Bool.Decides.{nat_tests}
use Rattle.x509_der.specs.facts.BitEdits.{bit_here, bit_past}
use Rattle.x509_values.proofs.usage.bit_at.Goals as goal

pub returns-then-at-bytes : goal.returns-then-at-bytes
returns-then-at-bytes c = c.has_bit.ensures ∙ bit_here c.args.bytes.now c.args.index c.if-at-bytes.true

pub returns-else-at-bytes : goal.returns-else-at-bytes
returns-else-at-bytes c = grind (arith, nat_tests, bit_past c.args.bytes.now c.args.index c.if-at-bytes.false)
