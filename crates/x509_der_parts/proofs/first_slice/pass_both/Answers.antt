use Rattle.std.proofs.lemmas.Result.{err_from_is_err_and}
use Rattle.x509_der_parts.specs.Reading.{thrifty}
use Rattle.x509_der_parts.specs.reads.Passing.{thrifty_lawful}
use Rattle.x509_der_parts.specs.reads.FirstField.{both_first, both_second}
use Rattle.x509_der_parts.proofs.first_slice.pass_both.Goals as goal

pub returns-in_err-_first : goal.returns-in_err-_first
returns-in_err-_first g c =
    let r = c.requires in
    let s = g.F.Field.shape in
    let t = g.G.Content.content_shape in
    let p = err_from_is_err_and c.from_residual.result c.from_residual.ensures.1 in
    rw (p.1, p.2) (both_first (thrifty s) (thrifty t) (thrifty_lawful s (g.F.Field.lawful r.first)) (thrifty_lawful t (g.G.Content.content_lawful r.second)) r.apart c.args.reader.now c.pass.new.reader _ c.in_err-_first.ensures)

pub returns-in_err-_second : goal.returns-in_err-_second
returns-in_err-_second g c =
    let r = c.requires in
    let s = g.F.Field.shape in
    let t = g.G.Content.content_shape in
    let h = c.in_ok-_first.ensures in
    let p = err_from_is_err_and c.from_residual-in_err-_second.result c.from_residual-in_err-_second.ensures.1 in
    rw (p.1, p.2) (both_second (thrifty s) (thrifty t) (thrifty_lawful s (g.F.Field.lawful r.first)) (thrifty_lawful t (g.G.Content.content_lawful r.second)) r.apart c.args.reader.now c.pass.new.reader c.pass_content.new.reader h.value _ h.accepts c.in_err-_second.ensures)

pub returns : goal.returns
returns g c =
    let h = c.in_ok-_first.ensures in
    let k = c.in_ok-_second.ensures in
    (h.value, k.value, record { mid = c.pass.new.reader; first = h.accepts; second = k.accepts; at = c.spot-end.ensures.start; counted = c.deviations-inside.ensures })
