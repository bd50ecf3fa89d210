use Rattle.x509_keys.specs.facts.PrivateKeyPlaces.{rsa_inside, ec_inside, ed_inside}
use Rattle.x509_keys.proofs.laws.private_keys_inside.Goals as goal

pub returns-clause-rsa : goal.returns-clause-rsa
returns-clause-rsa g c = λ k n slice string y a. rsa_inside k n slice string y a

pub returns-clause-ec : goal.returns-clause-ec
returns-clause-ec g c = λ k n slice string y a. ec_inside k n slice string y a

pub returns-clause-ed : goal.returns-clause-ed
returns-clause-ed g c = λ k n slice string y a. ed_inside k n slice string y a
