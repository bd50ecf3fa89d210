use Rattle.std.proofs.Common.{refl, sym, ◌∙◌}
use Rattle.x509_flat_values.proofs.SignatureWalks.{identified_in, told_pss, told_own}
use Rattle.x509_flat_values.proofs.signatures.signature_within.Goals as goal

pub returns-then-is_pss : goal.returns-then-is_pss
returns-then-is_pss g c = λ v whole f.
    let i = identified_in c.args.bytes.now c.args.span v whole f c.over-info.result c.take.new.self c.take-2.new.self c.take.result c.take-2.result c.span-algorithm.result c.bytes-content.result.now c.over-info.ensures c.take.ensures c.take-2.ensures c.bytes-content.ensures c.span-algorithm.ensures in
    told_pss c.args.bytes.now v c.span-algorithm.result c.bytes-content.result.now c.take-2.new.self.rest c.pss_digest-digest.result _ i (sym (c.is_pss.ensures v.algorithm i.is_oid) ∙ c.if-is_pss.true) c.pss_digest-digest.ensures refl cc

pub returns : goal.returns
returns g c = λ v whole f.
    let i = identified_in c.args.bytes.now c.args.span v whole f c.over-info.result c.take.new.self c.take-2.new.self c.take.result c.take-2.result c.span-algorithm.result c.bytes-content.result.now c.over-info.ensures c.take.ensures c.take-2.ensures c.bytes-content.ensures c.span-algorithm.ensures in
    told_own c.args.bytes.now v c.span-algorithm.result c.bytes-content.result.now c.take-2.new.self.rest c.own_digest-digest.result _ i (sym (c.is_pss.ensures v.algorithm i.is_oid) ∙ c.if-is_pss.false) (c.own_digest-digest.ensures v.algorithm i.is_oid) refl cc
