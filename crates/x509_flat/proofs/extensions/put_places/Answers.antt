use Rattle.std.proofs.Common.{arith, refl, sym, ◌∙◌}
use Rattle.x509_flat.proofs.ExtensionPlaces.{counted}
use Rattle.x509_flat.proofs.extensions.put_places.Goals as goal

pub returns-then-out-size : goal.returns-then-out-size
returns-then-out-size g c = record {
  puts = λ list whole later. record {
    done = λ e. absurd (cc);
    short = λ _.
        let n = counted c.spellings_are_lawful.ensures.element list c.args.items.at c.args.items.rest c.args.bytes.now whole c.count-size.result c.count-size.ensures later in
        record { told = c.too_short.ensures.size ∙ sym n; same = refl; short = omega (arith, n) };
  };
  refused = λ e. cc;
  memory = λ e. cc;
  unknown = λ e. cc;
  long = λ e. cc;
}

pub returns : goal.returns
returns g c = record {
  puts = λ list whole later. record {
    done = λ _. c.write_places.ensures list whole (counted c.spellings_are_lawful.ensures.element list c.args.items.at c.args.items.rest c.args.bytes.now whole c.count-size.result c.count-size.ensures later) later;
    short = λ e. absurd (cc);
  };
  refused = λ e. cc;
  memory = λ e. cc;
  unknown = λ e. cc;
  long = λ e. cc;
}
