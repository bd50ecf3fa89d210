use Rattle.std.proofs.Common.{refl}
use Rattle.x509_fields.specs.facts.Slices.{same_slice, covers_lies}
use Rattle.x509_fields.proofs.walk.Walk.over.Goals as goal

pub returns-in-Some-clause-covered : goal.returns-in-Some-clause-covered
returns-in-Some-clause-covered c = λ slice k. (same_slice c.args.bytes.now c.in-Some.rest.now slice c.args.span.start c.args.span.end c.in-Some.ensures k, refl)

pub returns-in-Some-clause-outside : goal.returns-in-Some-clause-outside
returns-in-Some-clause-outside c = λ out. let l = covers_lies c.args.bytes.now c.in-Some.rest.now c.args.span.start c.args.span.end c.in-Some.ensures in absurd (out l.0 l.1)
