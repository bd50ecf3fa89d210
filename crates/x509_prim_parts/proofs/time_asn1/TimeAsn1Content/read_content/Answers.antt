use Rattle.x509_der.specs.reads.PrimitiveContent.{plain_accepts, plain_refuses}
use Rattle.x509_prim_parts.proofs.time_asn1.TimeAsn1Content.read_content.Goals as goal

pub from_allowed-requires : goal.from_allowed-requires
from_allowed-requires g c = g.Y.Years.plain.valid c.in-Some.moment c.rest.result.now c.in-Some.ensures.some

pub returns : goal.returns
returns g c =
    let y = g.Y.Years in
    rw c.from_allowed.ensures (plain_accepts y.says y.text y.allowed (Unit {0}) y.plain c.args.reader.now c.pass_rest.new.self c.rest.result.now c.in-Some.moment c.requires.ready c.rest.ensures.all c.pass_rest.ensures c.in-Some.ensures.some)

pub returns-in_default : goal.returns-in_default
returns-in_default g c =
    let y = g.Y.Years in
    plain_refuses y.says y.text y.allowed (Unit {0}) y.plain c.args.reader.now c.rest.result.now _ c.rest.ensures.all (λ f e. cc) (λ m. c.in_default.ensures.none)
