use Rattle.std.proofs.Common.{refl}
use Rattle.x509_flat_findings.proofs.request_findings.request_findings.Goals as goal

pub returns-in-Ok : goal.returns-in-Ok
returns-in-Ok g c =
    let read = c.in-Ok.ensures.read in
    let puts = c.put_request_findings-sized.ensures in
    record {
      done = λ q.
          let told = puts.done q in
          record { value = c.in-Ok.value; tally = read.0; whole = read.1; places = c.of-places.result; stand = c.of-places.ensures read.0 read.1.spelled; list = told.list; all = told.all; holds = told.holds };
      short = λ q.
          let told = puts.short q in
          record { value = c.in-Ok.value; tally = read.0; whole = read.1; places = c.of-places.result; stand = c.of-places.ensures read.0 read.1.spelled; list = told.list; all = told.all; holds = told.holds };
      refused = λ q. absurd (puts.refused q);
      memory = puts.memory;
      unknown = puts.unknown;
      long = puts.long;
    }

pub returns-in-Err : goal.returns-in-Err
returns-in-Err g c =
    let is = c.unsized_of.ensures.status in
    record {
      done = λ q. absurd (is.done q);
      short = λ q. absurd (is.others.short q);
      refused = λ q. (record { told = c.unsized_of.ensures.size; same = refl }, c.in-Err.ensures.read (is.refused q));
      memory = λ q. record { told = c.unsized_of.ensures.size; same = refl };
      unknown = is.others.unknown;
      long = is.others.long;
    }
