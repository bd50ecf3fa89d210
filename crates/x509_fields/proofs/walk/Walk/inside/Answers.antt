use Rattle.std.proofs.Common.{◌≡◌, ◌+◌, take, drop, ap, ◌∙◌}
use Rattle.x509_fields.specs.Walks.{Walk}
use Rattle.x509_fields.specs.facts.Steps.{found_end, inside_found}
use Rattle.x509_fields.proofs.walk.Walk.inside.Goals as goal

pub split_at-requires : goal.split_at-requires
split_at-requires c = found_end c.self.inside.rest.now c.in-Some.element c.in-Some.ensures

pub returns-in-Some : goal.returns-in-Some
returns-in-Some c =
    let v = c.self.view_is in
    let r : c.self.inside.rest.now ≡ c.args.self.now.rest = ap (λ (x : Walk). x.rest) v in
    let a : c.self.inside.at ≡ c.args.self.now.at = ap (λ (x : Walk). x.at) v in
    let e = c.in-Some.element in
    inside_found c.args.self.now _ e (rw r at c.in-Some.ensures) (c.split_at-in-Some.ensures.back ∙ ap (drop e.start) (c.split_at.ensures.front ∙ ap (take e.end) r)) (ap (λ n. n + e.start) a)
