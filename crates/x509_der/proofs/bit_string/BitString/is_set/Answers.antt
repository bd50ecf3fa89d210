use Rattle.std.proofs.Common.{false, get_or, ap, ◌∙◌}
use Rattle.x509_der.specs.BitString.{bits_of}
use Rattle.x509_der.specs.facts.BitEdits.{bit_used}
use Rattle.x509_der.proofs.bit_string.BitString.is_set.Goals as goal

pub returns : goal.returns
returns g c =
    c.bit_at.ensures ∙ ap (λ x. get_or (bits_of x) c.args.index false) c.deref.ensures.value ∙ bit_used c.self.inside.bytes.items c.self.inside.unused c.args.index c.self.invariant
    ∙ ap (λ v. get_or v c.args.index false) c.self.view_is
