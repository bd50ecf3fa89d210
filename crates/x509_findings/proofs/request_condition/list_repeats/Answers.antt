use Rattle.x509_findings.proofs.request_condition.list_repeats.Goals as goal

pub returns : goal.returns
returns g c = rw (← c.list.view_is, ← c.list-inside.view_is, ← c.as_slice.ensures.value) c.repeats.ensures
