use Rattle.std.proofs.lemmas.Result.{err_from_is_err_and}
use Rattle.x509_der_parts.specs.reads.FirstField.{both_first, both_second}
use Rattle.x509_der_parts.proofs.first_field.read_both.Goals as goal

pub returns-in_err-first : goal.returns-in_err-first
returns-in_err-first g c =
    let r = c.requires in
    let p = err_from_is_err_and c.from_residual.result c.from_residual.ensures.1 in
    rw (p.1, p.2) (both_first g.F.Field.shape g.G.Content.content_shape (g.F.Field.lawful r.first) (g.G.Content.content_lawful r.second) r.apart c.args.reader.now c.read.new.reader _ c.in_err-first.ensures)

pub returns-in_err-second : goal.returns-in_err-second
returns-in_err-second g c =
    let r = c.requires in
    let p = err_from_is_err_and c.from_residual-in_err-second.result c.from_residual-in_err-second.ensures.1 in
    rw (p.1, p.2) (both_second g.F.Field.shape g.G.Content.content_shape (g.F.Field.lawful r.first) (g.G.Content.content_lawful r.second) r.apart c.args.reader.now c.read.new.reader c.read_content.new.reader c.in_ok-first.first _ c.in_ok-first.ensures c.in_err-second.ensures)

pub returns : goal.returns
returns g c = record { mid = c.read.new.reader; first = c.in_ok-first.ensures; second = c.in_ok-second.ensures; at = c.spot-end.ensures.start; counted = c.deviations-inside.ensures }
