use Rattle.std.proofs.Common.{◌≡◌, ◌≤◌, drop}
use Rattle.picky_asn1_x509_parts.specs.AuthorityKeyIdentifier.{number}
use Rattle.x509_der.specs.Lasts.{ascends, ascends_from}
use Rattle.picky_asn1_x509_parts.proofs.authority_key_identifier.are_ascending.Given as goal

abbrev pub invariant-fields : goal.invariant-fields
invariant-fields g l = record { few : l.least ≤ 3; rest : ascends number l.fields ≡ ascends_from number l.least (drop l.field-index l.fields) }
