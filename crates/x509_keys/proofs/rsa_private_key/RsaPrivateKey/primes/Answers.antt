use Rattle.std.proofs.Common.{rules}
use Rattle.x509_keys.proofs.rsa_private_key.RsaPrivateKey.primes.Goals as goal

pub returns-clause-first : goal.returns-clause-first
returns-clause-first g c = search (rules)

pub returns-clause-second : goal.returns-clause-second
returns-clause-second g c = search (rules)
