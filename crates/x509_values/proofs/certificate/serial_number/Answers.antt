use Rattle.x509_der.specs.Integer.{integers}
use Rattle.x509_values.proofs.TellingCertificates.{held_content}
use Rattle.x509_values.proofs.certificate.serial_number.Goals as goal

pub returns-clause-ok : goal.returns-clause-ok
returns-clause-ok g c =
    let k = c.in_ok-places.ensures.ok in
    let f = k.stand.fields.fields.serial_number in
    record { value = k.value; tally = k.tally; whole = k.whole; span = c.in_ok-places.places.fields.serial_number; stands = f; content = held_content integers k.value.tbs_certificate.serial_number c.in_ok-places.places.fields.serial_number c.content_within.result c.args.bytes.now k.tally f c.content_within.ensures }
