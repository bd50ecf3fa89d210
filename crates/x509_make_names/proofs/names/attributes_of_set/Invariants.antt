use Rattle.std.proofs.Common.{◌≡◌, All, length}
use Rattle.x509_make_names.specs.SetOrder.{IsElement}
use Rattle.x509_make_names.proofs.names.attributes_of_set.Given as goal

abbrev pub invariant-members : goal.invariant-members
invariant-members g l = (l.maker.out.items ≡ l.initial.maker.out.items) × (length l.elements.items ≡ l.index) × All (λ e. IsElement 48 e.items) l.elements.items
