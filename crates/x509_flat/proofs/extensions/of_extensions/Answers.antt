use Rattle.std.proofs.Common.{refl}
use Rattle.x509_flat.proofs.extensions.of_extensions.Goals as goal

pub returns-in-Ok : goal.returns-in-Ok
returns-in-Ok g c =
    let h = c.in-Ok.ensures in
    let w = h.1.whole in
    let all = c.put_places.ensures in
    let walked = c.listed_items.ensures h.0 h.1.tally w.spelled in
    let puts = all.puts _ h.1.tally walked.items in
    record {
      done = λ e. record { value = h.0; tally = h.1.tally; whole = w; walk = c.listed_items.result; walked = walked; holds = puts.done e };
      short = λ e. record { value = h.0; tally = h.1.tally; whole = w; walk = c.listed_items.result; walked = walked; holds = puts.short e };
      refused = λ e. absurd (all.refused e);
      memory = all.memory;
      unknown = all.unknown;
      long = all.long;
    }

pub returns-in-Err : goal.returns-in-Err
returns-in-Err g c =
    let s = c.unsized_of.ensures.status in
    record {
      done = λ e. absurd (s.done e);
      short = λ e. absurd (s.others.short e);
      refused = λ e. (record { told = c.unsized_of.ensures.size; same = refl }, c.in-Err.ensures.1);
      memory = λ e. c.in-Err.ensures.0 (s.memory e);
      unknown = s.others.unknown;
      long = s.others.long;
    }
