use Rattle.std.proofs.Common.{◌≤◌, length, drop, Ok}
use Rattle.std.specs.List.{flat_map}
use Rattle.x509_der_parts.proofs.items.put_items.Given as goal

abbrev pub invariant-loop-left : goal.invariant-loop-left
invariant-loop-left g l = record {
  within : l.left ≤ length l.items;
  put : g.O.Output.puts (flat_map g.T.ToDer.strict (drop l.left l.items)) l.initial.out l.initial.at l.out (Ok l.start);
}

abbrev pub decreases-loop-left : goal.decreases-loop-left
decreases-loop-left g l = l.left
