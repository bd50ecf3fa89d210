use Rattle.std.proofs.Common.{length, refl}
use Rattle.picky_asn1_x509.specs.ExtendedKeyUsage.{extended_key_usage}
use Rattle.x509_flat.specs.Purposes.{PurposesCarried}
use Rattle.x509_der.specs.facts.Fields.{stands_whole}
use Rattle.x509_fields.specs.Spans.{FieldIn, all_of}
use Rattle.x509_flat.proofs.Fills.{filled, not_filled, from_start}
use Rattle.x509_flat.proofs.values.purposes.Goals as goal

pub returns-in-Ok : goal.returns-in-Ok
returns-in-Ok g c =
    let h = c.in-Ok.ensures in
    let w = h.1.whole in
    let there : FieldIn extended_key_usage h.0 (all_of c.args.octets.now) c.args.octets.now h.1.tally = record {
      slice = c.args.octets.now;
      at = (stands_whole extended_key_usage c.spellings_are_lawful.ensures.lawful h.0 c.args.octets.now h.1.tally w.spelled).field;
      end = from_start c.args.octets.now;
    } in
    filled extended_key_usage c.args.octets.now (PurposesCarried c.args.octets.now c.args.out.now c.purposes_within.new.out) c.args.out.now c.purposes_within.new.out c.front_of.result.status c.purposes_within.result c.front_of.result.size (length c.args.out.now)
    (record { value = h.0; tally = h.1.tally; whole = w; told = c.purposes_within.ensures h.0 h.1.tally there })
    c.front_of.ensures.size refl c.front_of.ensures.status

pub returns-in-Err : goal.returns-in-Err
returns-in-Err g c =
    not_filled extended_key_usage c.args.octets.now (PurposesCarried c.args.octets.now c.args.out.now c.args.out.now) c.args.out.now c.args.out.now c.in-Err.error c.unsized_of.result.status c.unsized_of.result.size
    c.in-Err.ensures refl c.unsized_of.ensures.status c.unsized_of.ensures.size
