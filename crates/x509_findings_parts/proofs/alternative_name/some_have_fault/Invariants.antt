use Rattle.std.proofs.Common.{◌≡◌, drop}
use Rattle.std.specs.List.{list_any}
use Rattle.x509_findings_parts.specs.AlternativeNames.{has_fault}
use Rattle.x509_findings_parts.proofs.alternative_name.some_have_fault.Given as goal

-- one of what is left passes where one of all does
abbrev pub invariant-loop-name : goal.invariant-loop-name
invariant-loop-name g l = list_any (has_fault l.fault) (drop l.name-index l.names) ≡ list_any (has_fault l.fault) l.names
