use Rattle.std.proofs.Common.{◌≡◌, ◌∷◌, ◌++◌}
use Rattle.std.specs.Fmt.{HasWritten, IsPlainFormatter}
use Rattle.x509_der.specs.ObjectIdentifier.{dotted}
use Rattle.x509_der.proofs.oid.text.ObjectIdentifierDisplay.fmt.Given as goal

abbrev pub invariant-loop-arc : goal.invariant-loop-arc
invariant-loop-arc g l =
    (IsPlainFormatter l.fn.f → HasWritten g.W.Write.write_str_gives l.fn.f (dotted (l.first ∷ l.yielded)) l.f)
    × (l.self ≡ l.first ∷ (l.yielded ++ l.arc-iterator))
