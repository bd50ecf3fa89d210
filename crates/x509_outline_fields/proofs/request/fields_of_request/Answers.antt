use Rattle.x509_outline_fields.proofs.request.fields_of_request.Goals as goal

pub returns-clause-ok : goal.returns-clause-ok
returns-clause-ok g c =
    let h = c.in_ok-_deviations.ensures in
    let w = h.1 in
    record { value = h.0; tally = w.tally; whole = w.whole; stand = c.fields_within.ensures h.0 w.tally w.whole.spelled }
