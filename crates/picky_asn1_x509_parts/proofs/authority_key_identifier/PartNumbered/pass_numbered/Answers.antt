use Rattle.std.proofs.lemmas.Result.{err_from_is_err_and}
use Rattle.picky_asn1_x509_parts.proofs.authority_key_identifier.PartNumbered.pass_numbered.Goals as goal

pub returns-in_err-pass_side-clause-passes : goal.returns-in_err-pass_side-clause-passes
returns-in_err-pass_side-clause-passes g c =
    let p = err_from_is_err_and c.from_residual.result c.from_residual.ensures.1 in
    rw (p.1, p.2) c.in_err-pass_side.ensures
