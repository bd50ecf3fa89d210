use Rattle.std.proofs.Common.{◌≡◌, drop, map}
use Rattle.x509_oid_names.specs.Names.{name_beside}
use Rattle.x509_oid_names.proofs.table.beside.Given as goal

-- the name stands in the rest, or nowhere
abbrev pub invariant-loop-line : goal.invariant-loop-line
invariant-loop-line l = name_beside l.last (map (λ n. (n.0, n.1.now)) (drop l.line-index l.names)) ≡ name_beside l.last (map (λ n. (n.0, n.1.now)) l.names)
