use Rattle.std.proofs.Common.{refl}
use Rattle.std.proofs.lemmas.Result.{err_from_is_err_and}
use Rattle.x509_der_parts.specs.facts.Lists.{same_pair}
use Rattle.x509_der_parts.specs.reads.Join.{join_accepts, join_first, join_second}
use Rattle.x509_der_parts.proofs.join.JoinContent.read_content.Goals as goal

pub returns-in_err-first : goal.returns-in_err-first
returns-in_err-first g c =
    let p = err_from_is_err_and c.from_residual.result c.from_residual.ensures.1 in
    rw (p.1, p.2) (join_first (λ (j : g.row.F.Denot × g.row.G.Denot). j.0) (λ j. j.1) (same_pair (λ j. j.0) (λ j. j.1) (λ a b. (a, b)) (λ x. refl)) g.F.Field.shape g.G.Content.content_shape (g.F.Field.lawful c.requires.fits.0) (g.G.Content.content_lawful c.requires.fits.1) c.requires.fits.2
    c.args.reader.now c.read.new.reader _ c.in_err-first.ensures)

pub returns-in_err-second : goal.returns-in_err-second
returns-in_err-second g c =
    let p = err_from_is_err_and c.from_residual-in_err-second.result c.from_residual-in_err-second.ensures.1 in
    rw (p.1, p.2) (join_second (λ (j : g.row.F.Denot × g.row.G.Denot). j.0) (λ j. j.1) (same_pair (λ j. j.0) (λ j. j.1) (λ a b. (a, b)) (λ x. refl)) g.F.Field.shape g.G.Content.content_shape (g.F.Field.lawful c.requires.fits.0) (g.G.Content.content_lawful c.requires.fits.1) c.requires.fits.2
    c.args.reader.now c.read.new.reader c.read_content.new.reader c.in_ok-first.first _ c.in_ok-first.ensures c.in_err-second.ensures)

pub returns : goal.returns
returns g c =
    join_accepts (λ (j : g.row.F.Denot × g.row.G.Denot). j.0) (λ j. j.1) (same_pair (λ j. j.0) (λ j. j.1) (λ a b. (a, b)) (λ x. refl)) g.F.Field.shape g.G.Content.content_shape (g.F.Field.lawful c.requires.fits.0) (g.G.Content.content_lawful c.requires.fits.1) c.requires.fits.2
    c.args.reader.now c.read.new.reader c.read_content.new.reader (c.in_ok-first.first, c.in_ok-second.second) c.in_ok-first.ensures c.in_ok-second.ensures
