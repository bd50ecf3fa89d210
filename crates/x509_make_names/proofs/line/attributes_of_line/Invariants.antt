use Rattle.std.proofs.Common.{◌≡◌, All}
use Rattle.x509_make_names.specs.SetOrder.{IsElement}
use Rattle.x509_make_names.proofs.line.attributes_of_line.Given as goal

abbrev pub invariant-attributes : goal.invariant-attributes
invariant-attributes g l = (l.maker.out.items ≡ l.initial.maker.out.items) × All (λ e. IsElement 48 e.items) l.elements.items
