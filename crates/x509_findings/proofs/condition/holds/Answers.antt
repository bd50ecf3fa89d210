use Rattle.std.proofs.Common.{◌≡◌, ◌↔◌, IsTrue, Bool, not, sym, ap, ◌∙◌}
use Rattle.std.specs.Prelude.{◌&&◌}
use Rattle.x509_findings_parts.specs.Features.{some_have}
use Rattle.x509_findings.proofs.condition.holds.Goals as goal

same_truth : (r b : Bool) → r ≡ b → IsTrue r ↔ IsTrue b
same_truth r b e = (λ t. sym e ∙ t, λ t. e ∙ t)

pub returns-in-Has-clause-told : goal.returns-in-Has-clause-told
returns-in-Has-clause-told g c = rw c.in-Has.is (same_truth _ _ (c.some_have.ensures ∙ ap (some_have c.in-Has.feature) c.extensions.ensures))

pub returns-in-HasWithout-clause-told : goal.returns-in-HasWithout-clause-told
returns-in-HasWithout-clause-told g c =
    rw c.in-HasWithout.is (same_truth _ _ (c.have_without.ensures ∙ ap (λ list. some_have c.in-HasWithout.feature list && not (some_have c.in-HasWithout.other list)) c.extensions-in-HasWithout.ensures))

pub returns-in-Order-clause-told : goal.returns-in-Order-clause-told
returns-in-Order-clause-told g c = rw c.in-Order.is c.breaks_order.ensures
