use Rattle.x509_findings.proofs.request_condition.breaks_request_order.Goals as goal

pub returns-in-UnsortedSubject : goal.returns-in-UnsortedSubject
returns-in-UnsortedSubject g c = rw c.in-UnsortedSubject.is c.has_unsorted.ensures

pub returns-in-RepeatedExtension : goal.returns-in-RepeatedExtension
returns-in-RepeatedExtension g c = rw (c.in-RepeatedExtension.is, ← c.attributes_of.ensures) c.some_ask_twice.ensures
