use Rattle.std.proofs.Common.{◌-◌, ap, get_or, length, eq-eqb}
use Rattle.x509_keys_parts.proofs.algorithm_parameters.end_alike.Goals as goal

pub returns : goal.returns
returns c = λ e. eq-eqb _ _ (ap (λ p. get_or p (length p - 1) 0) e)
