use Rattle.std.proofs.Common.{length, refl}
use Rattle.x509_der.specs.Items.{items}
use Rattle.x509_der.specs.Tagged.{tagged}
use Rattle.x509_der.specs.facts.Fields.{stands_whole}
use Rattle.x509_fields.specs.Spans.{FieldIn, all_of}
use Rattle.x509_flat.proofs.Fills.{filled, not_filled, from_start}
use Rattle.x509_flat_values.specs.Lists.{ListHeld}
use Rattle.x509_flat_values.proofs.lists.list_told.Goals as goal

pub returns-in-Ok : goal.returns-in-Ok
returns-in-Ok g c =
    let h = c.in-Ok.ensures in
    let w = h.1.whole in
    let there : FieldIn (tagged 48 (items g.T.Field.shape)) h.0 (all_of c.args.bytes.now) c.args.bytes.now h.1.tally = record {
      slice = c.args.bytes.now;
      at = (stands_whole (tagged 48 (items g.T.Field.shape)) c.spellings_are_lawful.ensures.lawful h.0 c.args.bytes.now h.1.tally w.spelled).field;
      end = from_start c.args.bytes.now;
    } in
    filled (tagged 48 (items g.T.Field.shape)) c.args.bytes.now (ListHeld g.T.Field.shape g.P.Placing.tells c.args.bytes.now c.args.out.now c.items_within.new.out) c.args.out.now c.items_within.new.out c.front_of.result.status c.items_within.result c.front_of.result.size (length c.args.out.now)
    (record { value = h.0; tally = h.1.tally; whole = w; told = c.items_within.ensures 48 refl h.0 h.1.tally there })
    c.front_of.ensures.size refl c.front_of.ensures.status

pub returns-in-Err : goal.returns-in-Err
returns-in-Err g c =
    not_filled (tagged 48 (items g.T.Field.shape)) c.args.bytes.now (ListHeld g.T.Field.shape g.P.Placing.tells c.args.bytes.now c.args.out.now c.args.out.now) c.args.out.now c.args.out.now c.in-Err.error c.unsized_of.result.status c.unsized_of.result.size
    c.in-Err.ensures refl c.unsized_of.ensures.status c.unsized_of.ensures.size
