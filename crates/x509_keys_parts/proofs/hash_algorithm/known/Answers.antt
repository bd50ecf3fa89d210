use Rattle.std.proofs.Common.{sym, ◌∙◌}
use Rattle.x509_der.specs.facts.Named.{named_next}
use Rattle.x509_keys_parts.specs.HashAlgorithms.{hash_arcs, hashes}
use Rattle.x509_keys_parts.specs.facts.AlgorithmContents.{other_arcs}
use Rattle.x509_keys_parts.specs.declared.hash_algorithm.HashAlgorithm.TheVariants as hash
use Rattle.x509_keys_parts.proofs.hash_algorithm.known.Goals as goal

pub loop-hash-preserved : goal.loop-hash-preserved
loop-hash-preserved c =
    let missed = named_next hash_arcs hashes c.loop-hash.hash-index hash.SHA224 c.args.identifier.now c.loop-hash-test.true (other_arcs _ _ _ _ c.is_content.ensures c.if-is_content.false c.content.ensures) in
    sym missed ∙ c.loop-hash.invariant
