use Rattle.x509_der.specs.facts.OidContent.{same_content}
use Rattle.x509_flat_values.proofs.identifier.Identifier.is_content.Goals as goal

pub returns : goal.returns
returns c = rw (c.eq.ensures, ← c.self.view_is) (same_content c.self.inside.content.now c.args.content.now c.self.invariant)
