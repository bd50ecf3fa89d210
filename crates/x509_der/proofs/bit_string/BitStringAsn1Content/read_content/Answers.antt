use Rattle.std.proofs.Common.{ap, sym, ◌∙◌}
use Rattle.x509_der_parts.specs.reads.PrimitiveContent.{plain_accepts}
use Rattle.x509_der.specs.BitString.{IsBits, bit_content, used}
use Rattle.x509_der.specs.facts.BitString.{bits_plain}
use Rattle.x509_der.proofs.bit_string.BitStringAsn1Content.read_content.Goals as goal

pub returns : goal.returns
returns g c =
    let p = c.rest-content.result.now in
    let u = c.in-Some.unused in
    let i : IsBits (used c.in_ok-bytes.bytes.items u) p = c.in-Some.ensures.some.bits ∙ ap (λ x. bit_content (used x u)) (sym c.in_ok-bytes.ensures.items) in
    plain_accepts IsBits bit_content (λ v. Unit {0}) ⊥ bits_plain c.args.reader.now c.pass_rest.new.self p (used c.in_ok-bytes.bytes.items u) c.requires.ready c.rest-content.ensures.all c.pass_rest.ensures i
