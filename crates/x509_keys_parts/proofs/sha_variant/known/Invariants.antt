use Rattle.std.proofs.Common.{◌≡◌, drop}
use Rattle.x509_der.specs.Named.{named}
use Rattle.x509_keys_parts.specs.ShaVariants.{sha_arcs, shas, sha_of}
use Rattle.x509_keys_parts.proofs.sha_variant.known.Given as goal

abbrev pub invariant-loop-sha : goal.invariant-loop-sha
invariant-loop-sha g l = named sha_arcs (drop l.sha-index shas) l.identifier ≡ sha_of l.identifier
