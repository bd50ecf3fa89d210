use Rattle.x509_make_parts.specs.Appending.{Appends}
use Rattle.x509_make_names.proofs.line.sets_in_order.Given as goal

abbrev pub invariant-sets : goal.invariant-sets
invariant-sets g l = Appends l.initial.maker.out.items l.maker.out.items
