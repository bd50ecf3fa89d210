use Rattle.std.proofs.Common.{◌≡◌, drop, map}
use Rattle.x509_oids_by_name.specs.Names.{arcs_among}
use Rattle.x509_oids_by_name.proofs.table.among.Given as goal

-- the name stands in the rest, or nowhere
abbrev pub invariant-loop-table : goal.invariant-loop-table
invariant-loop-table l = arcs_among l.name (map (λ t. map (λ x. (x.0.now, x.1.now)) t.now) (drop l.table-index l.tables)) ≡ arcs_among l.name (map (λ t. map (λ x. (x.0.now, x.1.now)) t.now) l.tables)
