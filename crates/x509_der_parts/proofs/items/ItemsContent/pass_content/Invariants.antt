use Rattle.std.proofs.Common.{List, length}
use Rattle.x509_der_parts.specs.reads.Items.{SoFar}
use Rattle.x509_der_parts.proofs.items.ItemsContent.pass_content.Given as goal

abbrev pub invariant-items : goal.invariant-items
invariant-items g l = (done : List g.row.T.Denot) × SoFar g.T.Field.shape l.initial.reader l.reader done

abbrev pub decreases-items : goal.decreases-items
decreases-items g l = length l.reader.rest
