use Rattle.std.proofs.Common.{◌≡◌, [], sym, ◌∙◌}
use Rattle.x509_der_parts.specs.reads.Optional.{empty_is, not_empty_is}
use Rattle.x509_der.specs.facts.OidContent.{more_begin, none_more}
use Rattle.x509_der.proofs.oid.arcs.ArcsIterator.next.Goals as goal

pub returns-then-is_empty-clause-steps : goal.returns-then-is_empty-clause-steps
returns-then-is_empty-clause-steps c =
    let e : c.self.inside.numbers.now ≡ [] = empty_is c.self.inside.numbers.now (sym c.is_empty.ensures ∙ c.if-is_empty.true) in
    let v : c.args.self.now ≡ [] = sym c.self.view_is ∙ rw (c.in_default.is, c.in_default-second.is, e) none_more in
    (v, v)

pub split_number-number-requires : goal.split_number-number-requires
split_number-number-requires c = more_begin c.self.inside.numbers.now c.self.invariant (not_empty_is c.self.inside.numbers.now (sym c.is_empty.ensures ∙ c.if-is_empty.false))
