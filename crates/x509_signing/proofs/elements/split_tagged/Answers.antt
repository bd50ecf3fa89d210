use Rattle.std.proofs.Common.{sym, ap, ◌∙◌, arith, length-append, length}
use Rattle.x509_der.specs.facts.Element.{element_length}
use Rattle.x509_signing.specs.facts.Elements.{found_end, found_splits, other_found}
use Rattle.x509_signing.proofs.elements.split_tagged.Goals as goal

pub returns-then-element-tag : goal.returns-then-element-tag
returns-then-element-tag c = other_found c.args.tag c.args.bytes.now c.in-Some.element c.in-Some.ensures c.if-element-tag.true

pub split_at-requires : goal.split_at-requires
split_at-requires c = found_end c.args.bytes.now c.in-Some.element c.in-Some.ensures

pub returns : goal.returns
returns c = found_splits c.args.tag c.args.bytes.now _ _ _ c.in-Some.element c.in-Some.ensures c.if-element-tag.false c.split_at.ensures.front c.split_at.ensures.back c.split_at-2.ensures.back
