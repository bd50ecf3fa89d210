use Rattle.std.proofs.Common.{◌≡◌, List, length}
use Rattle.x509_der.specs.Lasts.{ascends}
use Rattle.x509_der.specs.reads.Items.{SoFar}
use Rattle.picky_asn1_x509_parts.specs.facts.AuthorityOrder.{least_after}
use Rattle.picky_asn1_x509_parts.proofs.authority_key_identifier.pass_ascending.Given as goal

abbrev pub invariant-items : goal.invariant-items
invariant-items g l = (done : List g.row.T.Denot) × SoFar g.T.Field.shape l.initial.reader l.reader done × (l.sorted ≡ ascends g.T.Numbered.number done) × (l.least ≡ least_after g.T.Numbered.number 0 done)

abbrev pub decreases-items : goal.decreases-items
decreases-items g l = length l.reader.rest
