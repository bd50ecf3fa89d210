use Rattle.std.proofs.Common.{ap, ◌∙◌, refl, Some, Option}
use Rattle.x509_keys_parts.specs.RawAlgorithm.{RawAlgorithm, if_there}
use Rattle.x509_keys_parts.specs.facts.RawAlgorithmFacts.{raw_there, raw_absent}
use Rattle.x509_keys_parts.proofs.raw_algorithm_identifier.RawAlgorithmIdentifierJudgeFields.judge.Goals as goal

pub returns-in-Some : goal.returns-in-Some
returns-in-Some g c = λ f e.
    let v : RawAlgorithm = record { algorithm = f.0; parameters = if_there f.1 } in
    (v, ap (λ ks. Some (v, ks)) (raw_there f.1 (ap (λ (b : Unit {0} × Option (Unit {0})). b.1) e ∙ c.in-Some.is)), refl)

pub returns-in-None : goal.returns-in-None
returns-in-None g c = λ f e.
    let v : RawAlgorithm = record { algorithm = f.0; parameters = if_there f.1 } in
    (v, ap (λ ks. Some (v, ks)) (raw_absent f.1 (ap (λ (b : Unit {0} × Option (Unit {0})). b.1) e ∙ c.in-None.is)), refl)
