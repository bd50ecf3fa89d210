use Rattle.x509_make_parts.specs.Appending.{Appends}
use Rattle.x509_make_keys.proofs.private_keys.rsa_private_key.Given as goal

abbrev pub invariant-numbers : goal.invariant-numbers
invariant-numbers g l = Appends l.initial.maker.out.items l.maker.out.items
