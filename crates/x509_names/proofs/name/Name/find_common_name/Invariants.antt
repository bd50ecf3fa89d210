use Rattle.std.proofs.Common.{◌≡◌, drop}
use Rattle.x509_names.specs.CommonNames.{first_common_name}
use Rattle.x509_names.proofs.name.Name.find_common_name.Given as goal

-- the rest has the same first common name
abbrev pub invariant-loop-set : goal.invariant-loop-set
invariant-loop-set g l = first_common_name (drop l.set-index l.set-items) ≡ first_common_name l.self
