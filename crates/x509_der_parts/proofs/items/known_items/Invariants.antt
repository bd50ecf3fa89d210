use Rattle.std.proofs.Common.{take}
use Rattle.std.specs.List.{AllByRecursion}
use Rattle.x509_der_parts.proofs.items.known_items.Given as goal

abbrev pub invariant-loop-item : goal.invariant-loop-item
invariant-loop-item g l = AllByRecursion g.T.Field.shape.valid (take l.item-index l.items)
