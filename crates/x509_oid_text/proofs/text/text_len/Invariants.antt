use Rattle.std.proofs.Common.{◌≡◌, ◌∷◌, ◌++◌, length}
use Rattle.x509_der.specs.ObjectIdentifier.{dotted}
use Rattle.x509_oid_text.proofs.text.text_len.Given as goal

abbrev pub invariant-arcs : goal.invariant-arcs
invariant-arcs l =
    record {
      arcs : l.fn.arcs ≡ l.first ∷ (l.yielded ++ l.arc-iterator);
      len : l.len ≡ length (dotted (l.first ∷ l.yielded));
    }
