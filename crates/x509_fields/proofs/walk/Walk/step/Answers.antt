use Rattle.std.proofs.Common.{◌≡◌, ◌+◌, drop, ap, refl, ◌∙◌, arith}
use Rattle.x509_fields.specs.Walks.{Walk}
use Rattle.x509_fields.specs.facts.Steps.{found_end, found_positive, steps}
use Rattle.x509_fields.proofs.walk.Walk.step.Goals as goal

pub split_at-requires : goal.split_at-requires
split_at-requires c = found_end c.self.inside.rest.now c.in-Some.element c.in-Some.ensures

pub returns : goal.returns
returns c =
    let v = c.self.view_is in
    let r : c.self.inside.rest.now ≡ c.args.self.now.rest = ap (λ (x : Walk). x.rest) v in
    let a : c.self.inside.at ≡ c.args.self.now.at = ap (λ (x : Walk). x.at) v in
    (steps c.args.self.now _ c.in-Some.element _ (rw r at c.in-Some.ensures) (c.split_at.ensures.back ∙ ap (drop c.in-Some.element.end) r) (ap (λ n. n + c.in-Some.element.end) a) a refl, omega (arith, a, found_positive c.self.inside.rest.now c.in-Some.element c.in-Some.ensures))
