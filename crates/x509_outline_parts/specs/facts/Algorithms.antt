-- Algorithm identifiers with the same parts are the same.
use Rattle.std.proofs.Common.{◌≡◌, ap}
use Rattle.x509_outline_parts.specs.Algorithms.{Fields, algorithm_parts}
use Rattle.x509_outline_parts.specs.declared.algorithm_outline.AlgorithmOutline.{AlgorithmOutline}

abbrev pub algorithm_of : {A : Type 0} → Fields → AlgorithmOutline A
algorithm_of f = record { algorithm = f.0; parameters = f.1 }

pub algorithm_same : {A : Type 0} (v w : AlgorithmOutline A) → algorithm_parts v ≡ algorithm_parts w → v ≡ w
algorithm_same v w e = ap algorithm_of e
