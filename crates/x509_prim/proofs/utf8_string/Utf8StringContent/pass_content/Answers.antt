use Rattle.std.proofs.Common.{refl}
use Rattle.std.specs.Str.{IsUtf8}
use Rattle.x509_der.specs.reads.PrimitiveContent.{itself_accepts}
use Rattle.x509_der.specs.reads.Passing.{read_passes}
use Rattle.x509_prim.specs.Texts.{utf8_texts}
use Rattle.x509_prim.proofs.utf8_string.Utf8StringContent.pass_content.Goals as goal

pub returns : goal.returns
returns g c =
    let b = c.rest.result.now in
    read_passes utf8_texts (λ v. tt) c.args.reader.now c.pass_rest.new.self b (itself_accepts IsUtf8 c.args.reader.now c.pass_rest.new.self b b c.requires.ready c.rest.ensures.bytes c.rest.ensures.all c.pass_rest.ensures refl c.in-Ok.ensures.cases.1)
