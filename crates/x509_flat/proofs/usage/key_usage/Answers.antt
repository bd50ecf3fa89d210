use Rattle.std.proofs.Common.{◌∙◌}
use Rattle.x509_der.specs.facts.Fields.{stands_whole}
use Rattle.picky_asn1_x509.specs.KeyUsages.{key_usage}
use Rattle.x509_fields.specs.Spans.{FieldIn, all_of}
use Rattle.x509_flat.proofs.Fills.{from_start}
use Rattle.x509_flat.proofs.usage.key_usage.Goals as goal

pub returns-in-Ok : goal.returns-in-Ok
returns-in-Ok g c =
    let h = c.in-Ok.ensures in
    let w = h.1.whole in
    let there : FieldIn key_usage h.0 (all_of c.args.octets.now) c.args.octets.now h.1.tally = record {
      slice = c.args.octets.now;
      at = (stands_whole key_usage c.spellings_are_lawful.ensures.lawful h.0 c.args.octets.now h.1.tally w.spelled).field;
      end = from_start c.args.octets.now;
    } in
    record {
      done = λ _. record { value = h.0; tally = h.1.tally; whole = w; is = c.done.ensures.fields ∙ c.within.ensures h.0 h.1.tally there };
      refused = λ e. absurd (cc);
      memory = λ e. absurd (cc);
      others = record { short = λ e. cc; unknown = λ e. cc; long = λ e. cc };
    }
