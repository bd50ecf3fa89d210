use Rattle.std.proofs.Common.{length, ap, arith}
use Rattle.x509_der.specs.facts.BitString.{length-used}
use Rattle.x509_der.proofs.bit_string.BitString.get_num_bits.Goals as goal

pub returns : goal.returns
returns g c =
    let s = c.self.inside.bytes in
    omega (arith, length-used s.items c.self.inside.unused, ap length c.self.view_is, c.len.ensures, s.ok.0)
