use Rattle.std.proofs.Common.{◌≡◌, drop}
use Rattle.x509_der.specs.Named.{named}
use Rattle.x509_keys_parts.specs.HashAlgorithms.{hash_arcs, hashes, hash_of}
use Rattle.x509_keys_parts.proofs.hash_algorithm.known.Given as goal

abbrev pub invariant-loop-hash : goal.invariant-loop-hash
invariant-loop-hash l = named hash_arcs (drop l.hash-index hashes) l.identifier ≡ hash_of l.identifier
