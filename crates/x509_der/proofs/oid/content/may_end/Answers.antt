use Rattle.std.proofs.Common.{◌-◌, ap, ◌∙◌, get_or, length, eq-eqb}
use Rattle.x509_der.specs.facts.OidLast.{content_last}
use Rattle.x509_der.proofs.oid.content.may_end.Goals as goal

pub returns : goal.returns
returns c = λ e. eq-eqb _ _ (ap (λ p. get_or p (length p - 1) 0) e ∙ content_last c.args.arcs.now c.if-arcs-lt3.false)
