use Rattle.std.proofs.Common.{sym, ◌∙◌}
use Rattle.std.proofs.lemmas.List.{take_rest}
use Rattle.x509_prim.proofs.FirstUnits.{pair_step, lone_step}
use Rattle.x509_prim.proofs.utf16.next_char.Goals as goal

pub returns-then-is_pair-clause-text : goal.returns-then-is_pair-clause-text
returns-then-is_pair-clause-text c =
    let unit = c.first_unit-unit.ensures in
    let next = rw take_rest at c.first_unit-next.ensures in
    rw (take_rest, take_rest) (pair_step c.args.bytes.now c.pair_char.result c.requires (rw (← unit, ← next) (sym c.is_pair.ensures ∙ c.if-is_pair.true)) (rw (← unit, ← next) c.pair_char.ensures))

pub returns-clause-text : goal.returns-clause-text
returns-clause-text c =
    let unit = c.first_unit-unit.ensures in
    let next = rw take_rest at c.first_unit-next.ensures in
    rw take_rest (lone_step c.args.bytes.now c.lone_char.result c.requires (rw (← unit, ← next) (sym c.is_pair.ensures ∙ c.if-is_pair.false)) (rw (← unit) c.lone_char.ensures))
