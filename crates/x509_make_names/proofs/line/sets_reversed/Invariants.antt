use Rattle.x509_make_parts.specs.Appending.{Appends}
use Rattle.x509_make_names.proofs.line.sets_reversed.Given as goal

abbrev pub invariant-parts : goal.invariant-parts
invariant-parts g l = Appends l.initial.maker.out.items l.maker.out.items
