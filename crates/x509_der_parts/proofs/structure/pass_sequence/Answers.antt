use Rattle.std.proofs.Common.{refl}
use Rattle.std.proofs.lemmas.Result.{err_from_is_err_and}
use Rattle.x509_der_parts.specs.Reading.{thrifty}
use Rattle.x509_der_parts.specs.Tagged.{tagged}
use Rattle.x509_der_parts.specs.reads.Structure.{structure_refuses}
use Rattle.x509_der_parts.specs.reads.Passing.{structure_passes}
use Rattle.x509_der_parts.proofs.structure.pass_sequence.Goals as goal

pub returns : goal.returns
returns g c = structure_passes g.T.Structure.fields (tagged 48 g.F.Content.content_shape) g.met.T.Structure.same g.met.T.Structure.made g.F.Content.content_brief (λ v. tt) c.args.reader.now c.pass_element.new.reader _ tt (λ v e. refl) c.in_ok-_brief.ensures

pub returns-in_err-_brief : goal.returns-in_err-_brief
returns-in_err-_brief g c =
    let p = err_from_is_err_and c.from_residual.result c.from_residual.ensures.1 in
    rw (p.1, p.2) (structure_refuses g.T.Structure.fields (thrifty (tagged 48 g.F.Content.content_shape)) g.met.T.Structure.same c.args.reader.now c.pass_element.new.reader _ c.in_err-_brief.ensures)
