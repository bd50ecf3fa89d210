use Rattle.std.proofs.Common.{◌∙◌, sym, ap}
use Rattle.std.specs.Prelude.{IsTrue}
use Rattle.x509_der.specs.reads.PrimitiveContent.{itself_accepts}
use Rattle.x509_prim.specs.Texts.{Passes}
use Rattle.x509_prim.proofs.restricted_string.RestrictedStringAsn1Content.read_content.Goals as goal

pub returns : goal.returns
returns g c =
    let e = c.in_ok-bytes.ensures.items in
    let P = Passes g.C.CharSet.allowed in
    let m : IsTrue (g.C.CharSet.allowed c.in_ok-bytes.bytes.items) = ap g.C.CharSet.allowed e ∙ sym c.allows.ensures ∙ c.if-not-allows.false in
    rw c.from_allowed.ensures (itself_accepts P c.args.reader.now c.pass_rest.new.self c.rest-bytes.result.now c.in_ok-bytes.bytes.items c.requires.ready c.rest-bytes.ensures.bytes c.rest-bytes.ensures.all c.pass_rest.ensures (sym e) m)
