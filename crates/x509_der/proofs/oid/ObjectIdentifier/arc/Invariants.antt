use Rattle.std.proofs.Common.{◌≡◌, drop}
use Rattle.x509_der.proofs.oid.ObjectIdentifier.arc.Given as goal

abbrev pub invariant-loop-place : goal.invariant-loop-place
invariant-loop-place g l = l.own ≡ drop l._place l.self
