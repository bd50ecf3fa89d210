use Rattle.std.proofs.Common.{arith}
use Rattle.x509_flat.proofs.ExtensionPlaces.{BehindIf, behind_none, behind_some, placed_stands, told_within}
use Rattle.x509_flat.proofs.extensions.placed.Goals.{in-Some, in-None}
use Rattle.x509_flat.proofs.extensions.placed.Goals as goal

pub returns-clause-stands : goal.returns-clause-stands
returns-clause-stands g c = λ v whole f.
    let inner = told_within v c.args.span c.args.bytes.now whole c.slice.result _ c.unwrap_or-slice.result c.within-fields.result f c.slice.ensures c.unwrap_or-slice.ensures (c.within-fields.ensures v) in
    let n = c.args.span.start in
    let critical : BehindIf n c.within-fields.result.critical c.match-fields.result = elim c.match-fields.branch [
      | in-Some w ↦ behind_some n c.within-fields.result.critical w.in-Some.critical c.match-fields.result w.behind-in-Some.result w.in-Some.is w.result-is (record { start = w.behind-in-Some.ensures.start; end = w.behind-in-Some.ensures.end })
      | in-None w ↦ behind_none n c.within-fields.result.critical c.match-fields.result w.in-None.is w.result-is
    ] in
    placed_stands v c.args.span c.args.bytes.now whole _ c.within-fields.result f inner (omega arith) c.of.ensures (record { start = c.behind.ensures.start; end = c.behind.ensures.end }) critical (record { start = c.behind-2.ensures.start; end = c.behind-2.ensures.end })
