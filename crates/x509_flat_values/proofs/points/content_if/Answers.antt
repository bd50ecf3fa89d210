use Rattle.std.proofs.Common.{ap, refl, length, arith, inl, inr}
use Rattle.x509_fields.specs.facts.Steps.{begun, none_begun, not_begun}
use Rattle.x509_flat_values.proofs.points.content_if.Goals as goal

pub returns : goal.returns
returns c =
    let r = c.bytes.ensures in
    inl (begun c.args.tag c.args.fields.now.rest (omega (arith, c.in-len1-up.len_at_least, ap length r)) (rw r at c.if-first-tag.false), c.take.result, c.take.ensures, c.span.ensures)

pub returns-then-first-tag : goal.returns-then-first-tag
returns-then-first-tag c =
    let r = c.bytes.ensures in
    inr (not_begun c.args.tag c.args.fields.now.rest (omega (arith, c.in-len1-up.len_at_least, ap length r)) (rw r at c.if-first-tag.true), refl, c.nowhere-then-first-tag.ensures)

pub returns-in_default : goal.returns-in_default
returns-in_default c =
    let r = c.bytes.ensures in
    inr (none_begun _ c.args.fields.now.rest (omega (arith, c.in_default.len_below, ap length r)), refl, c.nowhere.ensures)
