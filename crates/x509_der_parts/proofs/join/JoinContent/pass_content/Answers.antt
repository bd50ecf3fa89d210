use Rattle.std.proofs.Common.{refl}
use Rattle.std.proofs.lemmas.Result.{err_from_is_err_and}
use Rattle.x509_der_parts.specs.Join.{join}
use Rattle.x509_der_parts.specs.Reading.{thrifty}
use Rattle.x509_der_parts.specs.facts.Lists.{same_pair}
use Rattle.x509_der_parts.specs.reads.Join.{join_accepts, join_first, join_second}
use Rattle.x509_der_parts.specs.reads.Passing.{alike_join, thrifty_lawful, alike_accepts, alike_refuses}
use Rattle.x509_der_parts.proofs.join.JoinContent.pass_content.Goals as goal

pub returns-in_err-first : goal.returns-in_err-first
returns-in_err-first g c =
    let p = err_from_is_err_and c.from_residual.result c.from_residual.ensures.1 in
    let s = g.F.Field.shape in
    let t = g.G.Content.content_shape in
    rw (p.1, p.2) (alike_refuses (join (λ (j : g.row.F.Denot × g.row.G.Denot). j.0) (λ j. j.1) (thrifty s) (thrifty t)) (thrifty (join (λ (j : g.row.F.Denot × g.row.G.Denot). j.0) (λ j. j.1) s t)) (alike_join (λ (j : g.row.F.Denot × g.row.G.Denot). j.0) (λ j. j.1) s t) c.args.reader.now c.pass.new.reader _ (λ u. (tt, tt)) (join_first (λ (j : g.row.F.Denot × g.row.G.Denot). j.0) (λ j. j.1) (same_pair (λ j. j.0) (λ j. j.1) (λ a b. (a, b)) (λ x. refl)) (thrifty s) (thrifty t) (thrifty_lawful s (g.F.Field.lawful c.requires.fits.0)) (thrifty_lawful t (g.G.Content.content_lawful c.requires.fits.1)) c.requires.fits.2
    c.args.reader.now c.pass.new.reader _ c.in_err-first.ensures))

pub returns-in_err-second : goal.returns-in_err-second
returns-in_err-second g c =
    let p = err_from_is_err_and c.from_residual-in_err-second.result c.from_residual-in_err-second.ensures.1 in
    let s = g.F.Field.shape in
    let t = g.G.Content.content_shape in
    rw (p.1, p.2) (alike_refuses (join (λ (j : g.row.F.Denot × g.row.G.Denot). j.0) (λ j. j.1) (thrifty s) (thrifty t)) (thrifty (join (λ (j : g.row.F.Denot × g.row.G.Denot). j.0) (λ j. j.1) s t)) (alike_join (λ (j : g.row.F.Denot × g.row.G.Denot). j.0) (λ j. j.1) s t) c.args.reader.now c.pass_content.new.reader _ (λ u. (tt, tt)) (join_second (λ (j : g.row.F.Denot × g.row.G.Denot). j.0) (λ j. j.1) (same_pair (λ j. j.0) (λ j. j.1) (λ a b. (a, b)) (λ x. refl)) (thrifty s) (thrifty t) (thrifty_lawful s (g.F.Field.lawful c.requires.fits.0)) (thrifty_lawful t (g.G.Content.content_lawful c.requires.fits.1)) c.requires.fits.2
    c.args.reader.now c.pass.new.reader c.pass_content.new.reader c.in_ok-first.ensures.value _ c.in_ok-first.ensures.accepts c.in_err-second.ensures))

pub returns : goal.returns
returns g c =
    let s = g.F.Field.shape in
    let t = g.G.Content.content_shape in
    let h = c.in_ok-first.ensures in
    let k = c.in_ok-second.ensures in
    let hk = h.kept in
    let kk = k.kept in
    record {
      value = (h.value, k.value);
      accepts = alike_accepts (join (λ (j : g.row.F.Denot × g.row.G.Denot). j.0) (λ j. j.1) (thrifty s) (thrifty t)) (thrifty (join (λ (j : g.row.F.Denot × g.row.G.Denot). j.0) (λ j. j.1) s t)) (alike_join (λ (j : g.row.F.Denot × g.row.G.Denot). j.0) (λ j. j.1) s t) c.args.reader.now c.pass_content.new.reader (h.value, k.value) (join_accepts (λ (j : g.row.F.Denot × g.row.G.Denot). j.0) (λ j. j.1) (same_pair (λ j. j.0) (λ j. j.1) (λ a b. (a, b)) (λ x. refl)) (thrifty s) (thrifty t) (thrifty_lawful s (g.F.Field.lawful c.requires.fits.0)) (thrifty_lawful t (g.G.Content.content_lawful c.requires.fits.1)) c.requires.fits.2
          c.args.reader.now c.pass.new.reader c.pass_content.new.reader (h.value, k.value) h.accepts k.accepts);
      kept = cc;
    }
