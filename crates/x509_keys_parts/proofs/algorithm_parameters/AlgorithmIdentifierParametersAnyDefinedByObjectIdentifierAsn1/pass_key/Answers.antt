use Rattle.x509_keys_parts.proofs.algorithm_parameters.AlgorithmIdentifierParametersAnyDefinedByObjectIdentifierAsn1.pass_key.Goals as goal

pub returns : goal.returns
returns g c =
    let k = c.kind_of.ensures in
    let l = c.key_kind.ensures in
    record { value = c.in_ok-identifier.identifier; accepts = c.in_ok-identifier.ensures.ok; kept = cc }
