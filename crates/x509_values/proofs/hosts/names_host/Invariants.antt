use Rattle.std.proofs.Common.{◌↔◌, length}
use Rattle.x509_values.specs.Hosts.{NamesHost}
use Rattle.x509_values.proofs.hosts.names_host.Given as goal

abbrev pub invariant-names : goal.invariant-names
invariant-names l = NamesHost l.host l.initial.names.rest ↔ NamesHost l.host l.names.rest

abbrev pub decreases-names : goal.decreases-names
decreases-names l = length l.names.rest
