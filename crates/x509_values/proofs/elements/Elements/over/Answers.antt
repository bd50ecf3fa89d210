use Rattle.std.proofs.Common.{refl}
use Rattle.x509_fields.specs.facts.Slices.{same_slice, covers_lies}
use Rattle.x509_values.proofs.elements.Elements.over.Goals as goal

pub returns-in-Some : goal.returns-in-Some
returns-in-Some c = λ slice k. (same_slice c.args.bytes.now c.in-Some.rest.now slice c.args.span.start c.args.span.end c.in-Some.ensures k, refl)

pub returns-in-None : goal.returns-in-None
returns-in-None c = λ slice k. let l = covers_lies c.args.bytes.now slice c.args.span.start c.args.span.end k in absurd (c.in-None.ensures l.0 l.1)
