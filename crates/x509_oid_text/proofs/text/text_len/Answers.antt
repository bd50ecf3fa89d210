use Rattle.std.proofs.Common.{[], ◌∷◌, ◌++◌, ◌^◌, arith, ap, sym, ◌∙◌, append_assoc}
use Rattle.std.proofs.Math.Nat.{lt_of_not-le}
use Rattle.x509_oid_text.proofs.Dotted.{longer, too_long}
use Rattle.x509_oid_text.proofs.text.text_len.Goals as goal

pub returns-in_default-checked_add : goal.returns-in_default-checked_add
returns-in_default-checked_add c =
    let i = c.arcs.invariant in
    let steps = i.arcs ∙ ap (λ x. c.in-Some.first ∷ (c.arcs.yielded ++ x)) c.in-Some-arc.ensures.steps in
    let full = lt_of_not-le c.in_default-checked_add.ensures in
    too_long c.args.arcs c.in-Some.first c.arcs.yielded c.in-Some-arc.arc c.next-in-arcs.new.self steps (2 ^ 64) (omega (arith, full, i.len, c.digits_in.ensures.digits))

pub arcs-preserved : goal.arcs-preserved
arcs-preserved c =
    let i = c.arcs.invariant in
    let sum = c.in-Some-checked_add.ensures.1 in
    record {
      arcs = i.arcs ∙ ap (λ x. c.in-Some.first ∷ (c.arcs.yielded ++ x)) c.in-Some-arc.ensures.steps ∙ ap (λ x. c.in-Some.first ∷ x) (sym (append_assoc c.arcs.yielded (c.in-Some-arc.arc ∷ []) c.next-in-arcs.new.self));
      len = omega (arith, sum, i.len, c.digits_in.ensures.digits, longer c.in-Some.first c.arcs.yielded c.in-Some-arc.arc);
    }
