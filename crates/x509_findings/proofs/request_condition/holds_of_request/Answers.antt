use Rattle.std.proofs.Common.{◌≡◌, ◌↔◌, IsTrue, Bool, sym, ap, ◌∙◌}
use Rattle.x509_findings.specs.Requests.{are_asked}
use Rattle.x509_findings.proofs.request_condition.holds_of_request.Goals as goal

same_truth : (r b : Bool) → r ≡ b → IsTrue r ↔ IsTrue b
same_truth r b e = (λ t. sym e ∙ t, λ t. e ∙ t)

pub returns-in-Has-clause-told : goal.returns-in-Has-clause-told
returns-in-Has-clause-told g c = rw c.in-Has.is (same_truth _ _ (c.are_asked.ensures ∙ ap (are_asked c.in-Has.feature) c.attributes_of.ensures))

pub returns-in-Order-clause-told : goal.returns-in-Order-clause-told
returns-in-Order-clause-told g c = rw c.in-Order.is c.breaks_request_order.ensures
