use Rattle.std.proofs.lemmas.Result.{on_ok_weaker}
use Rattle.x509_make_values.proofs.identifiers.identifier.Goals as goal

pub returns : goal.returns
returns g c = on_ok_weaker c.put_identifier.result (λ e. (_, c.in_ok-found.ensures, e)) c.put_identifier.ensures
