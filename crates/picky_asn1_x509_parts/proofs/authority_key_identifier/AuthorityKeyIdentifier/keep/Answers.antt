use Rattle.std.proofs.Common.{rules}
use Rattle.picky_asn1_x509_parts.proofs.authority_key_identifier.AuthorityKeyIdentifier.keep.Goals as goal

pub returns-in-First : goal.returns-in-First
returns-in-First g c = search (rules)
