use Rattle.std.proofs.Common.{◌≡◌, drop, map}
use Rattle.x509_oids_by_name.specs.Names.{arcs_beside}
use Rattle.x509_oids_by_name.proofs.table.beside.Given as goal

-- the name stands in the rest, or nowhere
abbrev pub invariant-loop-line : goal.invariant-loop-line
invariant-loop-line l = arcs_beside l.name (map (λ x. (x.0.now, x.1.now)) (drop l.line-index l.table)) ≡ arcs_beside l.name (map (λ x. (x.0.now, x.1.now)) l.table)
