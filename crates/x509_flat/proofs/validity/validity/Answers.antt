use Rattle.std.proofs.Common.{ap, subst, ◌∙◌}
use Rattle.x509_names.specs.Types.{Validity}
use Rattle.x509_flat.specs.Validities.{IsTime}
use Rattle.x509_flat.specs.declared.validity.FlatValidity.{FlatValidity}
use Rattle.x509_flat.proofs.validity.validity.Goals as goal

pub returns-in-Ok : goal.returns-in-Ok
returns-in-Ok g c =
    let h = c.in-Ok.ensures.ok in
    let first = subst (λ (v : Validity). IsTime v.not_before c.of.result.not_before) h.is c.of.ensures.not_before in
    let last = subst (λ (v : Validity). IsTime v.not_after c.of.result.not_after) h.is c.of.ensures.not_after in
    record {
      done = λ _. rw c.done.ensures.fields (record { value = h.value; tally = h.tally; whole = h.whole; first = first; last = last });
      refused = λ e. absurd (cc);
      memory = λ e. absurd (cc);
      others = record { short = λ e. cc; unknown = λ e. cc; long = λ e. cc };
    }

pub returns-in-Err : goal.returns-in-Err
returns-in-Err g c = record {
  done = λ e. absurd (c.refused.ensures.status.done e);
  refused = λ e. (ap (λ (f : FlatValidity). f.not_before) c.refused.ensures.fields ∙ c.none.ensures.not_before, ap (λ (f : FlatValidity). f.not_after) c.refused.ensures.fields ∙ c.none.ensures.not_after, c.in-Err.ensures.err.1);
  memory = λ e. c.in-Err.ensures.err.0 (c.refused.ensures.status.memory e);
  others = c.refused.ensures.status.others;
}
