use Rattle.x509_findings.proofs.request_condition.asks_twice.Goals as goal

pub returns-in-Extensions : goal.returns-in-Extensions
returns-in-Extensions g c = rw (c.in-Extensions.is, ← c.lists.view_is, ← c.as_slice.ensures.value) c.some_repeat.ensures
