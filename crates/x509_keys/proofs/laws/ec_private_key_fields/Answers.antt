use Rattle.x509_keys.specs.facts.PrivateKeyPlaces.{ec_private_fields}
use Rattle.x509_keys.proofs.laws.ec_private_key_fields.Goals as goal

pub returns : goal.returns
returns g c = λ k n slice string y a. ec_private_fields k n slice string y a
