use Rattle.std.proofs.lemmas.Result.{err_from_is_err_and}
use Rattle.x509_der_parts.specs.reads.Structure.{structure_accepts, structure_refuses}
use Rattle.x509_der_parts.proofs.structure.read_as_content.Goals as goal

pub returns : goal.returns
returns g c = structure_accepts g.T.Structure.fields g.F.Content.content_shape g.met.T.Structure.same c.args.reader.now c.read_content.new.reader c.from_fields.result (rw c.from_fields.ensures c.in_ok-parts.ensures)

pub returns-in_err-parts : goal.returns-in_err-parts
returns-in_err-parts g c =
    let p = err_from_is_err_and c.from_residual.result c.from_residual.ensures.1 in
    rw (p.1, p.2) (structure_refuses g.T.Structure.fields g.F.Content.content_shape g.met.T.Structure.same c.args.reader.now c.read_content.new.reader _ c.in_err-parts.ensures)
