use Rattle.std.proofs.Common.{◌∙◌}
use Rattle.x509_findings_memory.proofs.Neighbours.{pair}
use Rattle.x509_findings_memory.proofs.order.descends_at.Goals as goal

pub returns : goal.returns
returns g c =
    let same = pair c.args.set.now c.args.index c.index-set-index.result c.index-set-index-2.result c.as_slice.result.now c.as_slice-2.result.now c.requires c.index-set-index.is c.index-set-index-2.is (c.as_slice.ensures.value ∙ c.in_ok-first.ensures) (c.as_slice-2.ensures.value ∙ c.in_ok-second.ensures) in
    (λ t. same.0 (c.descends.ensures.0 t), λ d. c.descends.ensures.1 (same.1 d))
