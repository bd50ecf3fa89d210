use Rattle.x509_findings.proofs.condition.breaks_order.Goals as goal

pub returns-in-UnsortedIssuer : goal.returns-in-UnsortedIssuer
returns-in-UnsortedIssuer g c = rw c.in-UnsortedIssuer.is c.has_unsorted.ensures

pub returns-in-UnsortedSubject : goal.returns-in-UnsortedSubject
returns-in-UnsortedSubject g c = rw c.in-UnsortedSubject.is c.has_unsorted-in-UnsortedSubject.ensures

pub returns-in-RepeatedExtension : goal.returns-in-RepeatedExtension
returns-in-RepeatedExtension g c = rw (c.in-RepeatedExtension.is, ← c.extensions.ensures) c.repeats.ensures
