use Rattle.x509_keys.specs.facts.PrivateKeyPlaces.{rsa_private_numbers}
use Rattle.x509_keys.proofs.laws.rsa_private_key_fields.Goals as goal

pub returns : goal.returns
returns g c = λ k n slice string y a. rsa_private_numbers k n slice string y a
