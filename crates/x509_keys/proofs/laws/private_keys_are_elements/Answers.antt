use Rattle.x509_keys.specs.facts.PrivateKeyValues.{private_key_is_element}
use Rattle.x509_keys.proofs.laws.private_keys_are_elements.Goals as goal

pub returns : goal.returns
returns g c = λ v h. private_key_is_element v h
