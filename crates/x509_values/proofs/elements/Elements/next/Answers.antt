use Rattle.std.proofs.Common.{◌≡◌, ◌+◌, take, drop, ap, refl, ◌∙◌}
use Rattle.x509_values.specs.Rests.{Rest}
use Rattle.x509_values.specs.facts.Elements.{found_end, found_start, passes}
use Rattle.x509_values.proofs.elements.Elements.next.Goals as goal

pub split_at-requires : goal.split_at-requires
split_at-requires c = found_end c.self.inside.rest.now c.in-Some.element c.in-Some.ensures

pub split_at-requires-2 : goal.split_at-requires-2
split_at-requires-2 c = found_start c.self.inside.rest.now c.split_at.result.0.now c.in-Some.element c.in-Some.ensures c.split_at.ensures.front

pub returns-clause-takes : goal.returns-clause-takes
returns-clause-takes c =
    let v = c.self.view_is in
    let r : c.self.inside.rest.now ≡ c.args.self.now.rest = ap (λ (x : Rest). x.rest) v in
    let a : c.self.inside.at ≡ c.args.self.now.at = ap (λ (x : Rest). x.at) v in
    let p = c.in-Some.element in
    passes c.args.self.now _ p _ (rw r at c.in-Some.ensures) (c.split_at.ensures.back ∙ ap (drop p.end) r) (ap (λ n. n + p.end) a) refl a (c.split_at-2.ensures.back ∙ ap (drop p.start) (c.split_at.ensures.front ∙ ap (take p.end) r)) (ap (λ n. n + p.start) a)
