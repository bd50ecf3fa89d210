use Rattle.std.proofs.lemmas.Result.{err_from_is_err_and}
use Rattle.x509_der.specs.Optional.{optional}
use Rattle.x509_der.specs.RawIn.{raws_in}
use Rattle.x509_der.specs.reads.Join.{join_accepts, join_first, join_second}
use Rattle.x509_keys.specs.facts.Skipping.{skip_lawful, pair_whole}
use Rattle.x509_keys.proofs.skipping.read_skip_before.Goals as goal

pub returns-in_err-skipped : goal.returns-in_err-skipped
returns-in_err-skipped g c =
    let k = g.K.Tags.keep in
    let l = g.G.Field.lawful c.requires.fits in
    let p = err_from_is_err_and c.from_residual.result c.from_residual.ensures.1 in
    rw (p.1, p.2) (join_first (λ j. j.0) (λ j. j.1) pair_whole (optional (raws_in k)) g.G.Field.shape (skip_lawful k) l c.requires.apart c.args.reader.now c.pass_over_next.new.reader _ c.in_err-skipped.ensures)

pub returns-in_err-field : goal.returns-in_err-field
returns-in_err-field g c =
    let k = g.K.Tags.keep in
    let l = g.G.Field.lawful c.requires.fits in
    let p = err_from_is_err_and c.from_residual-in_err-field.result c.from_residual-in_err-field.ensures.1 in
    rw (p.1, p.2) (join_second (λ j. j.0) (λ j. j.1) pair_whole (optional (raws_in k)) g.G.Field.shape (skip_lawful k) l c.requires.apart c.args.reader.now c.pass_over_next.new.reader c.read.new.reader c.in_ok-skipped.skipped _ c.in_ok-skipped.ensures c.in_err-field.ensures)

pub returns : goal.returns
returns g c =
    let k = g.K.Tags.keep in
    let l = g.G.Field.lawful c.requires.fits in
    join_accepts (λ j. j.0) (λ j. j.1) pair_whole (optional (raws_in k)) g.G.Field.shape (skip_lawful k) l c.requires.apart c.args.reader.now c.pass_over_next.new.reader c.read.new.reader (c.in_ok-skipped.skipped, c.in_ok-field.field) c.in_ok-skipped.ensures c.in_ok-field.ensures
