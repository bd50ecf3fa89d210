use Rattle.x509_keys.specs.facts.KeyPlaces.{rsa_numbers}
use Rattle.x509_keys.specs.facts.PrivateKeyPlaces.{rsa_public_numbers}
use Rattle.x509_keys.proofs.laws.rsa_public_key_fields.Goals as goal

pub returns-clause-alone : goal.returns-clause-alone
returns-clause-alone g c = λ k n slice string y a. rsa_public_numbers k n slice string y a

pub returns-clause-in_bits : goal.returns-clause-in_bits
returns-clause-in_bits g c = λ k n slice string y a. rsa_numbers k n slice string y a
