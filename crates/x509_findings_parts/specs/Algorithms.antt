-- What is asked of the parameters of an algorithm.
use Rattle.std.specs.Prelude.{Bool, false, ◌==◌}
use Rattle.x509_keys_parts.specs.AlgorithmIdentifier.{Algorithm}
use Rattle.x509_keys_parts.specs.declared.algorithm_parameters.AlgorithmIdentifierParameters.{AlgorithmIdentifierParameters}
use Rattle.x509_keys_parts.specs.declared.algorithm_parameters.AlgorithmIdentifierParameters.TheVariants as parameters

-- RSASSA-PSS-params with a saltLength of 20, the default (RFC 4055, 3.1), which DER leaves out (X.690, 11.5)
abbrev pub spells_salt_of : {A : Type 0} → AlgorithmIdentifierParameters A → Bool
spells_salt_of (parameters.RsassaPss p) = p.salt_length == 20
spells_salt_of p = false

abbrev pub spells_salt : {A : Type 0} → Algorithm A → Bool
spells_salt a = spells_salt_of a.parameters
