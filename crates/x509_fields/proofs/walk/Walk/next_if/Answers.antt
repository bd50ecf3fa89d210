use Rattle.std.proofs.Common.{◌≡◌, ap, refl, length, arith}
use Rattle.x509_fields.specs.Walks.{Walk}
use Rattle.x509_fields.specs.facts.Steps.{none_begun, not_begun}
use Rattle.x509_fields.proofs.walk.Walk.next_if.Goals as goal

pub returns-in_default : goal.returns-in_default
returns-in_default c =
    let r : c.self.inside.rest.now ≡ c.args.self.now.rest = ap (λ (x : Walk). x.rest) c.self.view_is in
    (refl, none_begun _ c.args.self.now.rest (omega (arith, c.in_default.len_below, ap length r)))

pub returns-in_default-2 : goal.returns-in_default-2
returns-in_default-2 c =
    let r : c.self.inside.rest.now ≡ c.args.self.now.rest = ap (λ (x : Walk). x.rest) c.self.view_is in
    (refl, not_begun c.args.tag c.args.self.now.rest (omega (arith, c.in-len1-up.len_at_least, ap length r)) (rw r at c.if-first-tag.false))
