use Rattle.x509_make_parts.specs.Appending.{Appends}
use Rattle.x509_make_names.proofs.names.sets_listed.Given as goal

abbrev pub invariant-items : goal.invariant-items
invariant-items g l = Appends l.initial.maker.out.items l.maker.out.items
