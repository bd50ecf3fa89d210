use Rattle.std.proofs.Common.{refl}
use Rattle.x509_inspect.proofs.kinds.Outcomes.is_told_by.Goals as goal

pub returns-then-is_telling : goal.returns-then-is_telling
returns-then-is_telling c = (λ t. (c.if-is_telling.ensures.0 refl, c.is_only.ensures.0 t), λ h. c.is_only.ensures.1 h.1)
