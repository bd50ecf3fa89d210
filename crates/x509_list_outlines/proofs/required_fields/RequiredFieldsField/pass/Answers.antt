use Rattle.std.proofs.lemmas.Result.{err_from_is_err_and}
use Rattle.std.proofs.Common.{refl}
use Rattle.x509_list_outlines.proofs.required_fields.RequiredFieldsField.pass.Goals as goal

pub returns : goal.returns
returns g c = record { value = c.in_ok-_brief.ensures.value; accepts = c.in_ok-_brief.ensures.accepts; kept = refl }

pub returns-in_err-_brief : goal.returns-in_err-_brief
returns-in_err-_brief g c =
    let p = err_from_is_err_and c.from_residual.result c.from_residual.ensures.1 in
    rw (p.1, p.2) c.in_err-_brief.ensures
