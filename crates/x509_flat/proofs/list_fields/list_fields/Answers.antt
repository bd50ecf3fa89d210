use Rattle.std.proofs.Common.{◌∙◌}
use Rattle.x509_flat.proofs.list_fields.list_fields.Goals as goal

pub returns-in-Ok : goal.returns-in-Ok
returns-in-Ok g c =
    let h = c.in-Ok.ensures.ok in
    record {
      done = λ _. record { value = h.value; tally = h.tally; whole = h.whole; places = c.in-Ok.places; stand = h.stand; holds = c.done.ensures.fields ∙ c.of.ensures };
      refused = λ e. absurd (cc);
      memory = λ e. absurd (cc);
      others = record { short = λ e. cc; unknown = λ e. cc; long = λ e. cc };
    }

pub returns-in-Err : goal.returns-in-Err
returns-in-Err g c = record {
  done = λ e. absurd (c.refused.ensures.status.done e);
  refused = λ e. (c.refused.ensures.fields ∙ c.none.ensures, c.in-Err.ensures.err.1);
  memory = λ e. c.in-Err.ensures.err.0 (c.refused.ensures.status.memory e);
  others = c.refused.ensures.status.others;
}
