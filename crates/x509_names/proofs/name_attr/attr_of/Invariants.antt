use Rattle.std.proofs.Common.{◌≡◌, drop}
use Rattle.x509_der.specs.Named.{named}
use Rattle.x509_names.specs.Attributes.{arcs_of, attrs, attr_of}
use Rattle.x509_names.proofs.name_attr.attr_of.Given as goal

abbrev pub invariant-loop-attr : goal.invariant-loop-attr
invariant-loop-attr l = named arcs_of (drop l.attr-index attrs) l.identifier ≡ attr_of l.identifier
