use Rattle.x509_findings.proofs.request_condition.list_has.Goals as goal

pub returns : goal.returns
returns g c = rw (← c.list.view_is, ← c.list-inside.view_is, ← c.as_slice.ensures.value) c.some_have.ensures
