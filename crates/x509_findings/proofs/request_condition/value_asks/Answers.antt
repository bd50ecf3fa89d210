use Rattle.x509_findings.proofs.request_condition.value_asks.Goals as goal

pub returns-in-Extensions : goal.returns-in-Extensions
returns-in-Extensions g c = rw (c.in-Extensions.is, ← c.lists.view_is, ← c.as_slice.ensures.value) c.lists_have.ensures
