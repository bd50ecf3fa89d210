use Rattle.std.proofs.Common.{◌≡◌, ◌++◌, take}
use Rattle.x509_der.proofs.oid.OidRef.arcs_behind.Given as goal

abbrev pub invariant-loop-arc : goal.invariant-loop-arc
invariant-loop-arc l = l.self ≡ take l.arc-index l.front ++ l.own
