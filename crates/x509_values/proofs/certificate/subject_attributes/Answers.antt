use Rattle.x509_values.proofs.certificate.subject_attributes.Goals as goal

pub returns : goal.returns
returns g c =
    let k = c.in_ok-places.ensures.ok in
    let f = k.stand.fields.fields.subject in
    record { value = k.value; tally = k.tally; whole = k.whole; span = c.in_ok-places.places.fields.subject; stands = f; told = c.attributes_within.ensures k.value.tbs_certificate.subject k.tally f }
