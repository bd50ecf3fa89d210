use Rattle.std.proofs.Common.{refl}
use Rattle.x509_keys_parts.specs.AlgorithmIdentifier.{Algorithm}
use Rattle.x509_der.specs.facts.SameEq.{both_decide, made_decide}
use Rattle.x509_keys_parts.proofs.algorithm_identifier.AlgorithmIdentifierSameEq.decides.Goals as goal

pub returns : goal.returns
returns g c =
    made_decide (λ (v : Algorithm g.row.A.Denot). (v.algorithm, v.parameters))
    (λ f. record { algorithm = f.0; parameters = f.1 }) (λ v. refl)
    (both_decide c.decides.ensures c.decides-2.ensures)
