use Rattle.std.proofs.Common.{sym, refl, ◌∙◌}
use Rattle.x509_flat_values.proofs.KeyWalks.{told_rsa, told_other}
use Rattle.x509_flat_values.proofs.keys.key_within.Goals as goal

pub returns-then-is_rsa : goal.returns-then-is_rsa
returns-then-is_rsa g c = λ v whole f.
    let p = c.parts_within-parts.ensures v whole f in
    told_rsa c.args.bytes.now c.parts_within-parts.result.identifier.now v c.parts_within-parts.result.algorithm c.parts_within-parts.result.key c.parts_within-parts.result.curve c.rsa_within-rsa.result _ p
    (sym (c.is_rsa.ensures v.algorithm.algorithm p.is_oid) ∙ c.if-is_rsa.true)
    c.rsa_within-rsa.ensures refl refl refl refl refl cc

pub returns : goal.returns
returns g c = λ v whole f.
    let p = c.parts_within-parts.ensures v whole f in
    told_other c.args.bytes.now c.parts_within-parts.result.identifier.now v c.parts_within-parts.result.algorithm c.parts_within-parts.result.key c.parts_within-parts.result.curve c.size_or.result _ p
    (sym (c.is_rsa.ensures v.algorithm.algorithm p.is_oid) ∙ c.if-is_rsa.false)
    c.size_or.ensures refl refl refl (cc) (cc) refl
