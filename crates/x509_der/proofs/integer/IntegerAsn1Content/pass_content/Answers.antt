use Rattle.std.proofs.Common.{refl, ◌∙◌, sym}
use Rattle.std.specs.Prelude.{IsTrue}
use Rattle.x509_der_parts.specs.reads.PrimitiveContent.{itself_accepts}
use Rattle.x509_der_parts.specs.reads.Passing.{read_passes}
use Rattle.x509_der.specs.Integer.{IsMinimal, is_minimal, integers, magnitude}
use Rattle.x509_der.proofs.integer.IntegerAsn1Content.pass_content.Goals as goal

pub returns : goal.returns
returns g c =
    let b = c.rest-bytes.result.now in
    let m : IsTrue (is_minimal b) = sym c.is_shortest.ensures ∙ c.if-not-is_shortest.false in
    rw c.magnitude_of.ensures (read_passes integers magnitude c.args.reader.now c.pass_rest.new.self b (itself_accepts IsMinimal c.args.reader.now c.pass_rest.new.self b b c.requires.ready c.rest-bytes.ensures.bytes c.rest-bytes.ensures.all c.pass_rest.ensures refl m))
