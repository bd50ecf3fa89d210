use Rattle.std.proofs.Common.{◌∙◌, sym, ap}
use Rattle.std.specs.Prelude.{IsTrue}
use Rattle.x509_der_parts.specs.reads.PrimitiveContent.{itself_accepts}
use Rattle.x509_der.specs.Integer.{IsMinimal, is_minimal}
use Rattle.x509_der.proofs.integer.IntegerAsn1Content.read_content.Goals as goal

pub returns : goal.returns
returns g c =
    let e = c.in_ok-bytes.ensures.items in
    let m : IsTrue (is_minimal c.in_ok-bytes.bytes.items) = ap is_minimal e ∙ sym c.is_shortest.ensures ∙ c.if-not-is_shortest.false in
    itself_accepts IsMinimal c.args.reader.now c.pass_rest.new.self c.rest-bytes.result.now c.in_ok-bytes.bytes.items c.requires.ready c.rest-bytes.ensures.bytes c.rest-bytes.ensures.all c.pass_rest.ensures (sym e) m
