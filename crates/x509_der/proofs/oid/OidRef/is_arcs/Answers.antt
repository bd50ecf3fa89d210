use Rattle.std.proofs.Common.{[], sym, ◌∙◌}
use Rattle.std.proofs.lemmas.List.{append-nil}
use Rattle.x509_der.proofs.oid.OidRef.is_arcs.Goals as goal

pub returns-in-None : goal.returns-in-None
returns-in-None c = (λ t. cc, λ e. absurd (c.in-None.ensures [] (e ∙ sym (append-nil c.args.arcs.now))))
