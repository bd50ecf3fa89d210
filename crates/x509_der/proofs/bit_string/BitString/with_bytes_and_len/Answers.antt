use Rattle.std.proofs.Common.{◌≡◌, true, false, length, ap, arith}
use Rattle.x509_der.specs.facts.BitString.{length-bits_of}
use Rattle.x509_der.proofs.bit_string.BitString.with_bytes_and_len.Goals as goal

pub returns-in_err-set_num_bits-clause-spares : goal.returns-in_err-set_num_bits-clause-spares
returns-in_err-set_num_bits-clause-spares g c = λ h.
    let f : false ≡ true = c.in_err-set_num_bits.ensures.spares (omega (arith, h, ap length c.with_bytes-string.ensures, length-bits_of c.args.bytes.items)) in
    cc
