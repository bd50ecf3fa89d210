use Rattle.std.proofs.Common.{length}
use Rattle.x509_der_parts.specs.reads.Items.{SoFar}
use Rattle.x509_der_parts.proofs.items.ItemsContent.read_content.Given as goal

abbrev pub invariant-items : goal.invariant-items
invariant-items g l = SoFar g.T.Field.shape l.initial.reader l.reader l.items.items

abbrev pub decreases-items : goal.decreases-items
decreases-items g l = length l.reader.rest
