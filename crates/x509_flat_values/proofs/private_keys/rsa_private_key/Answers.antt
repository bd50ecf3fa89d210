use Rattle.std.proofs.Common.{◌∙◌}
use Rattle.x509_keys.specs.RsaPrivateKeys.{rsa_private_key}
use Rattle.x509_flat_values.specs.PrivateKeys.{NumbersTold, no_numbers}
use Rattle.x509_flat_values.proofs.Answering.{told, not_told}
use Rattle.x509_flat_values.proofs.private_keys.rsa_private_key.Goals as goal

pub returns-in-Ok : goal.returns-in-Ok
returns-in-Ok g c =
    let h = c.in-Ok.ensures in
    let w = h.1.whole in
    told rsa_private_key c.args.bytes.now (λ v at. NumbersTold v c.args.bytes.now at) no_numbers c.done.result.fields c.numbers_of.result c.done.result.status h.0 h.1.tally c.done.ensures.status c.done.ensures.fields w
    (c.numbers_of.ensures h.0 h.1.tally w.spelled)

pub returns-in-Err : goal.returns-in-Err
returns-in-Err g c =
    not_told rsa_private_key c.args.bytes.now (λ v at. NumbersTold v c.args.bytes.now at) no_numbers c.refused.result.fields c.refused.result.status c.in-Err.error c.in-Err.ensures c.refused.ensures.status (c.refused.ensures.fields ∙ c.none.ensures)
