use Rattle.std.proofs.Common.{◌≡◌, ◌++◌, take, flat_map}
use Rattle.x509_make_names.proofs.sets.put_all.Given as goal

abbrev pub invariant-loop-element : goal.invariant-loop-element
invariant-loop-element g l = l.maker.out.items ≡ l.initial.maker.out.items ++ flat_map (λ e. e.items) (take l.element-index l.elements)
