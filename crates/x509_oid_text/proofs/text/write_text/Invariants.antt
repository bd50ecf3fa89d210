use Rattle.std.proofs.Common.{◌≡◌, ◌∷◌, ◌++◌, drop, length}
use Rattle.x509_der.specs.ObjectIdentifier.{dotted}
use Rattle.x509_oid_text.proofs.text.write_text.Given as goal

abbrev pub invariant-arcs : goal.invariant-arcs
invariant-arcs l =
    record {
      arcs : l.fn.arcs ≡ l.first ∷ (l.yielded ++ l.arc-iterator);
      size : length l.out ≡ length l.fn.out;
      at : l.at ≡ length (dotted (l.first ∷ l.yielded));
      written : l.out ≡ dotted (l.first ∷ l.yielded) ++ drop l.at l.fn.out;
    }
