use Rattle.x509_keys_parts.specs.facts.HashAlgorithmFacts.{content_arcs}
use Rattle.x509_keys_parts.proofs.hash_algorithm.HashAlgorithm.content.Goals as goal

pub returns : goal.returns
returns c = rw c.number.ensures (content_arcs c.args.self)
