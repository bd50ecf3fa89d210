use Rattle.x509_values.specs.facts.Elements.{is_inside}
use Rattle.x509_values.proofs.elements.content_within.Goals as goal

pub returns : goal.returns
returns c = is_inside c.args.bytes.now c.args.span _ c.over-element.result c.take.new.self c.take.result c.over-element.ensures c.take.ensures c.span.ensures
