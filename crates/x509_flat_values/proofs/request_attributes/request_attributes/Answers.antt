use Rattle.std.proofs.Common.{length, refl}
use Rattle.picky_asn1_x509.specs.Requests.{request}
use Rattle.x509_flat.proofs.Fills.{filled, not_filled}
use Rattle.x509_flat_values.specs.Requests.{AttributesHeld}
use Rattle.x509_flat_values.proofs.request_attributes.request_attributes.Goals as goal

pub returns-in-Ok : goal.returns-in-Ok
returns-in-Ok g c =
    let h = c.in-Ok.ensures.ok in
    let f = h.stand.fields.attributes in
    filled request c.args.bytes.now (AttributesHeld _ c.args.bytes.now c.args.out.now c.items_within-count.new.out) c.args.out.now c.items_within-count.new.out c.front_of.result.status c.items_within-count.result c.front_of.result.size (length c.args.out.now)
    (record { value = h.value; tally = h.tally; whole = h.whole; span = c.in-Ok.places.fields.attributes; stands = f; told = c.items_within-count.ensures 160 refl h.value.certification_request_info.attributes h.tally f })
    c.front_of.ensures.size refl c.front_of.ensures.status

pub returns-in-Err : goal.returns-in-Err
returns-in-Err g c =
    not_filled request c.args.bytes.now (AttributesHeld _ c.args.bytes.now c.args.out.now c.args.out.now) c.args.out.now c.args.out.now c.in-Err.error c.unsized_of.result.status c.unsized_of.result.size
    c.in-Err.ensures.err refl c.unsized_of.ensures.status c.unsized_of.ensures.size
