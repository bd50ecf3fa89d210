use Rattle.std.proofs.Common.{sym, ap, length, ◌∙◌}
use Rattle.x509_der.specs.BitString.{unused_bits}
use Rattle.x509_der.specs.facts.BitString.{unused-used}
use Rattle.x509_der.proofs.bit_string.BitString.get_num_unused_bits.Goals as goal

pub returns : goal.returns
returns g c = sym (unused-used c.self.inside.bytes.items c.self.inside.unused c.self.invariant) ∙ ap (λ v. unused_bits (length v)) c.self.view_is
