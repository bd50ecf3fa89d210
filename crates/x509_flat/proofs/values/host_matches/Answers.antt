use Rattle.x509_flat.proofs.values.host_matches.Goals as goal

pub returns-in-Ok : goal.returns-in-Ok
returns-in-Ok g c = record {
  done = λ _. rw c.done.ensures.fields c.in-Ok.ensures.ok;
  refused = λ e. absurd (cc);
  memory = λ e. absurd (cc);
  others = record { short = λ e. cc; unknown = λ e. cc; long = λ e. cc };
}

pub returns-in-Err : goal.returns-in-Err
returns-in-Err g c = record {
  done = λ e. absurd (c.refused.ensures.status.done e);
  refused = λ e. (c.refused.ensures.fields, c.in-Err.ensures.err.1);
  memory = λ e. c.in-Err.ensures.err.0 (c.refused.ensures.status.memory e);
  others = c.refused.ensures.status.others;
}
