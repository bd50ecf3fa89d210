use Rattle.std.proofs.Common.{◌≡◌}
use Rattle.picky_asn1_x509_parts.specs.AuthorityKeyIdentifier.{authority_of}
use Rattle.picky_asn1_x509_parts.proofs.authority_key_identifier.last_of_each.Given as goal

abbrev pub invariant-fields : goal.invariant-fields
invariant-fields g l = l.value ≡ authority_of l.yielded
