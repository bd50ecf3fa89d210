use Rattle.std.proofs.Common.{refl}
use Rattle.std.proofs.lemmas.Bool.{false≢true}
use Rattle.x509_report_parts.proofs.shown.is_plain.Goals as goal

pub returns-else-not-is_unseen-clause-exact : goal.returns-else-not-is_unseen-clause-exact
returns-else-not-is_unseen-clause-exact c =
    let e = c.if-not-is_unseen.ensures in
    rw c.if-not-is_unseen.false (λ t. absurd (false≢true t), λ h. absurd (h.0 (e.0 refl).1))
