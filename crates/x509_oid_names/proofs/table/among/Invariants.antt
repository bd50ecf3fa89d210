use Rattle.std.proofs.Common.{◌≡◌, drop, map}
use Rattle.x509_oid_names.specs.Names.{name_among}
use Rattle.x509_oid_names.proofs.table.among.Given as goal

-- the name stands in the rest, or nowhere
abbrev pub invariant-loop-line : goal.invariant-loop-line
invariant-loop-line l = name_among l.front l.last (map (λ x. (x.0.now, map (λ n. (n.0, n.1.now)) x.1.now)) (drop l.line-index l.table)) ≡ name_among l.front l.last (map (λ x. (x.0.now, map (λ n. (n.0, n.1.now)) x.1.now)) l.table)
