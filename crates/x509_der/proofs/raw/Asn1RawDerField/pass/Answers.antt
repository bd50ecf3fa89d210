use Rattle.std.proofs.lemmas.Result.{err_from_is_err_and}
use Rattle.x509_der_parts.specs.RawElement.{raws}
use Rattle.x509_der_parts.specs.reads.Passing.{read_passes, never_refuses}
use Rattle.x509_der.proofs.raw.Asn1RawDerField.pass.Goals as goal

pub returns-in_err-_bytes : goal.returns-in_err-_bytes
returns-in_err-_bytes g c =
    let p = err_from_is_err_and c.from_residual.result c.from_residual.ensures.1 in
    rw (p.1, p.2) (never_refuses raws c.args.reader.now c.borrowed_element.new.reader _ c.in_err-_bytes.ensures.kind c.in_err-_bytes.ensures.err)

pub returns : goal.returns
returns g c = read_passes raws (λ v. tt) c.args.reader.now c.borrowed_element.new.reader c.in_ok-_bytes._bytes.now c.in_ok-_bytes.ensures.ok
