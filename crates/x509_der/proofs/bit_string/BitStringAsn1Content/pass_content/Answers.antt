use Rattle.x509_der_parts.specs.reads.PrimitiveContent.{plain_accepts}
use Rattle.x509_der_parts.specs.reads.Passing.{read_passes}
use Rattle.x509_der.specs.BitString.{IsBits, bit_content, bit_strings, used}
use Rattle.x509_der.specs.facts.BitString.{bits_plain}
use Rattle.x509_der.proofs.bit_string.BitStringAsn1Content.pass_content.Goals as goal

pub returns : goal.returns
returns g c =
    let p = c.rest.result.now in
    let b = used c.in-Some._bytes.now c.in-Some._unused in
    read_passes bit_strings (λ v. tt) c.args.reader.now c.pass_rest.new.self b (plain_accepts IsBits bit_content (λ v. Unit {0}) ⊥ bits_plain c.args.reader.now c.pass_rest.new.self p b c.requires.ready c.rest.ensures.all c.pass_rest.ensures c.in-Some.ensures.some.bits)
