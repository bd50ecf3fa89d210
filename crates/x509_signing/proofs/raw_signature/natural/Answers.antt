use Rattle.std.proofs.Common.{List, ℕ, ap, subst, ◌∙◌}
use Rattle.std.specs.Prelude.{pos}
use Rattle.x509_der.specs.Integer.{AreBytes, unsigned_value}
use Rattle.x509_der.specs.facts.NaturalNumber.{natural_once}
use Rattle.x509_signing.proofs.raw_signature.natural.Goals as goal

pub returns : goal.returns
returns g c =
    natural_once (unsigned_value c.args.digits.now) c.in_ok-integer.integer
    (subst AreBytes c.as_bytes.ensures.bytes c.known_bytes.ensures)
    c.in_ok-integer.ensures.minimal
    (c.in_ok-integer.ensures.number ∙ ap (λ (s : List ℕ). pos (unsigned_value s)) c.in_ok-bytes.ensures.items)
