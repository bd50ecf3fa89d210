use Rattle.x509_make_parts.specs.Appending.{Appends}
use Rattle.x509_make_fields.proofs.short_extensions.short_extensions.Given as goal

abbrev pub invariant-members : goal.invariant-members
invariant-members g l = Appends l.initial.maker.out.items l.maker.out.items
