use Rattle.std.proofs.Common.{rules}
use Rattle.x509_keys.proofs.rsa_private_key.RsaPrivateKey.into_public_components.Goals as goal

pub returns-clause-modulus : goal.returns-clause-modulus
returns-clause-modulus g c = search (rules)

pub returns-clause-public_exponent : goal.returns-clause-public_exponent
returns-clause-public_exponent g c = search (rules)
