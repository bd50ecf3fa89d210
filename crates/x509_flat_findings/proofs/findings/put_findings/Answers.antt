use Rattle.std.proofs.Common.{take}
use Rattle.x509_flat_findings.proofs.findings.put_findings.Goals as goal

pub returns-in-Ok : goal.returns-in-Ok
returns-in-Ok g c =
    let row = take c.in-Ok.count c.found.new.row in
    let puts = c.put.ensures in
    record {
      done = λ q. record { list = row; all = c.in-Ok.ensures.found; holds = puts.done q };
      short = λ q. record { list = row; all = c.in-Ok.ensures.found; holds = puts.short q };
      refused = puts.refused;
      memory = λ q. absurd (puts.memory q);
      unknown = puts.unknown;
      long = puts.long;
    }
