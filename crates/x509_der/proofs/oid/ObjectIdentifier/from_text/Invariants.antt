use Rattle.std.proofs.Common.{◌≡◌, map, length, take}
use Rattle.std.specs.Fmt.{decimal}
use Rattle.x509_der.proofs.Texts.{pieces, AllFit}
use Rattle.x509_der.proofs.oid.ObjectIdentifier.from_text.Given as goal

abbrev pub invariant-loop-piece : goal.invariant-loop-piece
invariant-loop-piece g l =
    (goal.iterator-loop-piece g).can_next l.piece-iterator
    × (goal.iterator-loop-piece g).is_finite l.piece-iterator
    × (map decimal l.arcs.items ≡ take (length l.yielded) (pieces l.text)) × AllFit l.arcs.items
