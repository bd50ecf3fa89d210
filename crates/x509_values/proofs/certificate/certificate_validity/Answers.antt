use Rattle.picky_asn1_x509.specs.Certificates.{certificate}
use Rattle.x509_names.specs.Validities.{validity}
use Rattle.x509_values.specs.facts.Values.{held_value}
use Rattle.x509_values.proofs.certificate.certificate_validity.Goals as goal

pub returns : goal.returns
returns g c =
    let k = c.in_ok-places.ensures.ok in
    let h = held_value certificate validity (λ v. v.tbs_certificate.validity) c.args.bytes.now c.in_ok-places.places.fields.validity k.value k.tally c.value_within.result k.whole k.stand.fields.fields.validity c.value_within.ensures.ok (c.value_within.ensures.err c.validity_takes_no_memory.ensures) in
    record { ok = h.0; err = h.1 }
