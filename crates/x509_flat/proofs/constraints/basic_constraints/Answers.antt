use Rattle.std.proofs.Common.{◌∙◌}
use Rattle.x509_flat.proofs.constraints.basic_constraints.Goals as goal

pub returns-in-Ok : goal.returns-in-Ok
returns-in-Ok g c =
    let h = c.in-Ok.ensures.read in
    record {
      done = λ _. record { value = c.in-Ok.constraints; tally = h.0; whole = h.1; is = c.done.ensures.fields ∙ c.of.ensures };
      refused = λ e. absurd (cc);
      memory = λ e. absurd (cc);
      others = record { short = λ e. cc; unknown = λ e. cc; long = λ e. cc };
    }

pub returns-in-Err : goal.returns-in-Err
returns-in-Err g c =
    let enough = c.in-Err.ensures.frugal c.basic_constraints_takes_no_memory.ensures in
    record {
      done = λ e. absurd (c.refused.ensures.status.done e);
      refused = λ e. (c.refused.ensures.fields ∙ c.none.ensures, c.in-Err.ensures.read enough);
      memory = λ e. enough (c.refused.ensures.status.memory e);
      others = c.refused.ensures.status.others;
    }
