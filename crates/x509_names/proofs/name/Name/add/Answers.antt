use Rattle.std.proofs.lemmas.Result.{err_from_is_err_and}
use Rattle.x509_names.proofs.name.Name.add.Goals as goal

pub returns-in_err-push-clause-err : goal.returns-in_err-push-clause-err
returns-in_err-push-clause-err g c =
    let p = err_from_is_err_and c.from_residual-in_err-push.result c.from_residual-in_err-push.ensures.1 in
    rw (p.1, ← c.self.view_is, ← c.self-inside.view_is) c.in_err-push.ensures.items
