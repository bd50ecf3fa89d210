use Rattle.x509_flat_values.proofs.KeyWalks.{parts_told}
use Rattle.x509_flat_values.proofs.keys.parts_within.Goals as goal

pub returns : goal.returns
returns g c = λ v whole f.
    parts_told c.args.bytes.now c.args.span v whole f c.over-info.result c.take.new.self c.take-2.new.self c.take-4.new.self c.take-3.new.self c.take.result c.take-2.result c.take-3.result c.take-4.result c.curve_within-curve.result c.behind_first-key.result _ c.bytes.result.now c.over-info.ensures c.take.ensures c.take-2.ensures c.take-3.ensures
    (λ kind p y within s. c.curve_within-curve.ensures kind p y c.args.bytes.now within s)
    c.take-4.ensures
    (λ more first within is. c.behind_first-key.ensures c.args.bytes.now more first within is)
    c.bytes.ensures c.span.ensures
