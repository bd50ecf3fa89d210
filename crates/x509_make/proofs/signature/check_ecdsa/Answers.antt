use Rattle.x509_make.proofs.signature.check_ecdsa.Goals as goal

pub returns-in-Err-clause-err : goal.returns-in-Err-clause-err
returns-in-Err-clause-err g c = (c.in-Err.ensures.0.0, λ n y s. c.in-Err.ensures.0.1 (record { modulus = n.0; public_exponent = n.1 }) y s)
