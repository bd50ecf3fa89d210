use Rattle.std.proofs.Common.{◌≡◌, take}
use Rattle.x509_der_parts.proofs.clone_eq.clone_items.Given as goal

abbrev pub invariant-loop-item : goal.invariant-loop-item
invariant-loop-item g l = l.copies.items ≡ take l.item-index l.items
