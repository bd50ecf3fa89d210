use Rattle.x509_keys_parts.specs.facts.HashAlgorithmFacts.{name_bytes}
use Rattle.x509_keys_parts.proofs.hash_algorithm.name_element.Goals as goal

pub returns : goal.returns
returns c = rw c.number.ensures (name_bytes c.args.hash)
