use Rattle.std.proofs.Common.{arith}
use Rattle.std.proofs.lemmas.Grind.{common_steps}
use Rattle.x509_der.proofs.Texts.{not_empty, not_plus_led, not_zero_led, zero_text, parsed}
use Rattle.x509_der.proofs.oid.text.read_arc.Goals as goal

pub returns-in_default : goal.returns-in_default
returns-in_default c = not_empty c.args.piece.now (grind (arith, common_steps))

pub returns-then-first-eq43 : goal.returns-then-first-eq43
returns-then-first-eq43 c = not_plus_led c.args.piece.now (grind (arith, common_steps))

pub returns-then-bytes-eq1 : goal.returns-then-bytes-eq1
returns-then-bytes-eq1 c = (omega arith, zero_text c.args.piece.now (grind (arith, common_steps)) (grind (arith, common_steps)))

pub returns-else-bytes-eq1 : goal.returns-else-bytes-eq1
returns-else-bytes-eq1 c = not_zero_led c.args.piece.now (grind (arith, common_steps)) (grind (arith, common_steps))

pub returns : goal.returns
returns c = rw c.ok.ensures.value (parsed c.args.piece.now c.parse.result c.parse.ensures.value.0 (grind (arith, common_steps)) (grind (arith, common_steps)))
