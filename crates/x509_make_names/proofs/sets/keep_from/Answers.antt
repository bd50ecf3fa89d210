use Rattle.x509_make_names.proofs.Kept.{keeps_pushed}
use Rattle.x509_make_names.proofs.sets.keep_from.Goals as goal
use Rattle.x509_make_names.proofs.sets.keep_from.Goals.{in-Ok, in-Err}

pub returns-clause-kept : goal.returns-clause-kept
returns-clause-kept g c = elim c.match-push.branch [ in-Ok w ↦ rw w.result-is (keeps_pushed _ (rw w.in-Ok.is at c.push.ensures.items) c.in_ok-element.ensures.taken) | in-Err w ↦ rw w.result-is tt ]
