use Rattle.std.proofs.Common.{sym, ◌∙◌}
use Rattle.std.proofs.lemmas.Result.{err_from_is_err_and}
use Rattle.x509_der_parts.specs.Reading.{thrifty}
use Rattle.x509_der_parts.specs.reads.Passing.{thrifty_lawful}
use Rattle.x509_der_parts.specs.reads.WholeInput.{takes_all, left_over_all, refuses_all}
use Rattle.x509_der_parts.specs.reads.Optional.{empty_is, not_empty_is}
use Rattle.x509_der.proofs.calls.pass_all.Goals as goal

pub returns-in_err-_brief : goal.returns-in_err-_brief
returns-in_err-_brief g c =
    let p = err_from_is_err_and c.from_residual.result c.from_residual.ensures.1 in
    rw (p.1, p.2) (refuses_all (thrifty g.T.Field.shape) (g.T.Field.elements g.met.T.FromDer.stands_alone.1).free c.args.reader.now c.pass.new.reader _ c.in_err-_brief.ensures)

pub returns-then-is_empty : goal.returns-then-is_empty
returns-then-is_empty g c =
    let s = g.T.Field.shape in
    let k = c.in_ok-_brief.ensures in
    (k.value, takes_all (thrifty s) (thrifty_lawful s (g.T.Field.lawful g.met.T.FromDer.stands_alone.0)) (g.T.Field.elements g.met.T.FromDer.stands_alone.1).free c.args.reader.now c.pass.new.reader k.value k.accepts (empty_is c.pass.new.reader.rest (sym c.is_empty.ensures ∙ c.if-is_empty.true)))

pub returns-else-is_empty : goal.returns-else-is_empty
returns-else-is_empty g c =
    let s = g.T.Field.shape in
    let k = c.in_ok-_brief.ensures in
    left_over_all (thrifty s) (thrifty_lawful s (g.T.Field.lawful g.met.T.FromDer.stands_alone.0)) (g.T.Field.elements g.met.T.FromDer.stands_alone.1).free c.args.reader.now c.pass.new.reader k.value k.accepts (not_empty_is c.pass.new.reader.rest (sym c.is_empty.ensures ∙ c.if-is_empty.false))
