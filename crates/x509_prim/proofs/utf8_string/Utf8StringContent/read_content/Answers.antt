use Rattle.std.proofs.Common.{◌∙◌, sym}
use Rattle.std.specs.Str.{IsUtf8}
use Rattle.std.specs.String.{string_bytes}
use Rattle.std.proofs.lemmas.Str.{IsUtf8-string_bytes}
use Rattle.x509_der.specs.reads.PrimitiveContent.{itself_accepts}
use Rattle.x509_prim.proofs.utf8_string.Utf8StringContent.read_content.Goals as goal

pub returns : goal.returns
returns g c =
    itself_accepts IsUtf8 c.args.reader.now c.pass_rest.new.self c.rest-bytes.result.now (string_bytes c.in_ok-text.text) c.requires.ready c.rest-bytes.ensures.bytes c.rest-bytes.ensures.all c.pass_rest.ensures (sym (c.in_ok-text.ensures.ok ∙ c.in-Ok.ensures.cases.0)) (IsUtf8-string_bytes c.in_ok-text.text)
