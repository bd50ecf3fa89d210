use Rattle.x509_der.specs.PrimitiveContent.{plain}
use Rattle.x509_der.specs.reads.PrimitiveContent.{plain_accepts, plain_refuses}
use Rattle.x509_der.specs.reads.Passing.{read_passes, read_refuses}
use Rattle.x509_prim_parts.proofs.time_asn1.TimeAsn1Content.pass_content.Goals as goal

pub returns : goal.returns
returns g c =
    let y = g.Y.Years in
    read_passes (plain y.says y.text y.allowed (Unit {0})) (λ t. tt) c.args.reader.now c.pass_rest.new.self c.in-Some._moment (plain_accepts y.says y.text y.allowed (Unit {0}) y.plain c.args.reader.now c.pass_rest.new.self c.rest.result.now c.in-Some._moment c.requires.ready c.rest.ensures.all c.pass_rest.ensures c.in-Some.ensures.some)

pub returns-in_default : goal.returns-in_default
returns-in_default g c =
    let y = g.Y.Years in
    plain_refuses y.says y.text y.allowed (Unit {0}) y.plain c.args.reader.now c.rest.result.now _ c.rest.ensures.all (λ f e. cc) (λ m. c.in_default.ensures.none)
