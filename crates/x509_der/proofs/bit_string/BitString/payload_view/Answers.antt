use Rattle.std.proofs.Common.{ap, ◌∙◌}
use Rattle.x509_der.specs.BitString.{bits_of, payload, used}
use Rattle.x509_der.specs.facts.BitString.{bits_of-payload}
use Rattle.x509_der.proofs.bit_string.BitString.payload_view.Goals as goal

pub returns-clause-bits : goal.returns-clause-bits
returns-clause-bits g c =
    ap bits_of (c.payload_of.ensures ∙ ap (λ x. payload (used x c.self.inside.unused)) c.deref.ensures.value ∙ ap payload c.self.view_is) ∙ bits_of-payload c.args.self.now
