use Rattle.std.proofs.Common.{◌≡◌, drop}
use Rattle.x509_names.specs.CommonNames.{first_of_set}
use Rattle.x509_names.proofs.name.common_name_in.Given as goal

-- the rest has the same first common name
abbrev pub invariant-loop-attribute : goal.invariant-loop-attribute
invariant-loop-attribute g l = first_of_set (drop l.attribute-index l.set) ≡ first_of_set l.set
