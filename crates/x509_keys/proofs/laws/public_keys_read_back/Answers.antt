use Rattle.x509_keys.specs.facts.ReadBack.{bare_rsa_unread}
use Rattle.x509_keys.proofs.laws.public_keys_read_back.Goals as goal

pub returns-clause-exactly : goal.returns-clause-exactly
returns-clause-exactly g c = λ v. (λ r. r, λ r. r)

pub returns-clause-bare_rsa : goal.returns-clause-bare_rsa
returns-clause-bare_rsa g c = bare_rsa_unread
