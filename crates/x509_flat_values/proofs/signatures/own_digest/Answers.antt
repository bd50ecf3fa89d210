use Rattle.std.proofs.Common.{ap, ◌∙◌}
use Rattle.x509_flat_values.specs.Digests.{digest_by}
use Rattle.x509_flat_values.proofs.KeyWalks.{same_arcs}
use Rattle.x509_flat_values.proofs.signatures.own_digest.Goals as goal

pub returns-in-Some : goal.returns-in-Some
returns-in-Some c = λ arcs h. c.digest_by.ensures ∙ ap digest_by (same_arcs c.in-Some.algorithm arcs c.args.content.now c.in-Some.ensures h)

pub returns-in-None : goal.returns-in-None
returns-in-None c = λ arcs h. absurd (c.in-None.ensures arcs h)
