use Rattle.std.proofs.Common.{refl, ◌∙◌, sym}
use Rattle.std.specs.Prelude.{IsTrue}
use Rattle.x509_der.specs.reads.PrimitiveContent.{itself_accepts}
use Rattle.x509_der.specs.reads.Passing.{read_passes}
use Rattle.x509_prim.specs.Texts.{Passes, texts}
use Rattle.x509_prim.proofs.restricted_string.RestrictedStringAsn1Content.pass_content.Goals as goal

pub returns : goal.returns
returns g c =
    let P = Passes g.C.CharSet.allowed in
    let b = c.rest.result.now in
    let m : IsTrue (g.C.CharSet.allowed b) = sym c.allows.ensures ∙ c.if-not-allows.false in
    read_passes (texts P) (λ v. tt) c.args.reader.now c.pass_rest.new.self b (itself_accepts P c.args.reader.now c.pass_rest.new.self b b c.requires.ready c.rest.ensures.bytes c.rest.ensures.all c.pass_rest.ensures refl m)
