use Rattle.x509_der.specs.facts.OidContent.{content_test}
use Rattle.x509_der.proofs.oid.OidRef.is_content.Goals as goal

pub returns : goal.returns
returns c = rw (c.eq.ensures, c.content.ensures.content) (content_test c.args.self.now c.args.content.now c.content.ensures.lawful)
