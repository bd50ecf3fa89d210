use Rattle.std.proofs.lemmas.Result.{err_from_is_err_and}
use Rattle.x509_der.specs.RawIn.{raws_in}
use Rattle.x509_der_parts.specs.reads.Passing.{read_passes, never_refuses}
use Rattle.x509_der.proofs.raw_in.RawInField.pass.Goals as goal

pub returns-in_err-_element : goal.returns-in_err-_element
returns-in_err-_element g c =
    let p = err_from_is_err_and c.from_residual.result c.from_residual.ensures.1 in
    rw (p.1, p.2) (never_refuses (raws_in g.K.Tags.keep) c.args.reader.now c.pass_over.new.reader _ c.in_err-_element.ensures.kind c.in_err-_element.ensures.err)

pub returns : goal.returns
returns g c = read_passes (raws_in g.K.Tags.keep) (λ v. tt) c.args.reader.now c.pass_over.new.reader c.in_ok-_element._element.now c.in_ok-_element.ensures.ok
