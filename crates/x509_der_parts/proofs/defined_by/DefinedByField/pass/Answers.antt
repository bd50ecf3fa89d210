use Rattle.std.proofs.Common.{refl, ◌∙◌, inl, inr, ⊎_elim}
use Rattle.std.proofs.lemmas.Result.{err_from_is_err_and}
use Rattle.x509_der_parts.specs.DefinedBy.{defined_by}
use Rattle.x509_der_parts.specs.Reading.{thrifty}
use Rattle.x509_der_parts.specs.facts.Lists.{same_pair}
use Rattle.x509_der_parts.specs.reads.DefinedBy.{defined_by_accepts, key_refuses, value_refuses}
use Rattle.x509_der_parts.specs.reads.Passing.{alike_defined_by, thrifty_lawful, thrifty_family, alike_accepts, alike_refuses}
use Rattle.x509_der_parts.proofs.defined_by.DefinedByField.pass.Goals as goal

pub returns-in_err-kind : goal.returns-in_err-kind
returns-in_err-kind g c =
    let p = err_from_is_err_and c.from_residual.result c.from_residual.ensures.1 in
    rw (p.1, p.2) (alike_refuses (defined_by (λ (j : g.row.K.Denot × g.row.V.Denot). j.0) (λ j. j.1) (thrifty g.K.Field.shape) (λ k. thrifty (g.V.AnyDefinedBy.shapes k)) g.V.AnyDefinedBy.starts g.V.AnyDefinedBy.avoids) (thrifty (defined_by (λ (j : g.row.K.Denot × g.row.V.Denot). j.0) (λ j. j.1) g.K.Field.shape g.V.AnyDefinedBy.shapes g.V.AnyDefinedBy.starts g.V.AnyDefinedBy.avoids)) (alike_defined_by (λ (j : g.row.K.Denot × g.row.V.Denot). j.0) (λ j. j.1) g.K.Field.shape g.V.AnyDefinedBy.shapes g.V.AnyDefinedBy.starts g.V.AnyDefinedBy.avoids) c.args.reader.now c.pass_key.new.reader _ (λ u. (tt, λ k. tt)) (key_refuses (λ (j : g.row.K.Denot × g.row.V.Denot). j.0) (λ j. j.1) (same_pair (λ j. j.0) (λ j. j.1) (λ a b. (a, b)) (λ x. refl)) (thrifty g.K.Field.shape) (λ k. thrifty (g.V.AnyDefinedBy.shapes k)) g.V.AnyDefinedBy.starts g.V.AnyDefinedBy.avoids (thrifty_lawful g.K.Field.shape (g.K.Field.lawful c.requires.fits.0)) (thrifty_family g.V.AnyDefinedBy.shapes g.V.AnyDefinedBy.starts g.V.AnyDefinedBy.avoids g.V.AnyDefinedBy.family) c.requires.fits.1
    c.args.reader.now c.pass_key.new.reader _ c.in_err-kind.ensures))

pub returns-in-Err : goal.returns-in-Err
returns-in-Err g c =
    let b = c.stand_at_key.ensures in
    let k = c.in_ok-kind.ensures in
    alike_refuses (defined_by (λ (j : g.row.K.Denot × g.row.V.Denot). j.0) (λ j. j.1) (thrifty g.K.Field.shape) (λ k. thrifty (g.V.AnyDefinedBy.shapes k)) g.V.AnyDefinedBy.starts g.V.AnyDefinedBy.avoids) (thrifty (defined_by (λ (j : g.row.K.Denot × g.row.V.Denot). j.0) (λ j. j.1) g.K.Field.shape g.V.AnyDefinedBy.shapes g.V.AnyDefinedBy.starts g.V.AnyDefinedBy.avoids)) (alike_defined_by (λ (j : g.row.K.Denot × g.row.V.Denot). j.0) (λ j. j.1) g.K.Field.shape g.V.AnyDefinedBy.shapes g.V.AnyDefinedBy.starts g.V.AnyDefinedBy.avoids) c.args.reader.now c.stand_at_key.new.reader _ (λ u. (tt, λ k. tt)) (value_refuses (λ (j : g.row.K.Denot × g.row.V.Denot). j.0) (λ j. j.1) (same_pair (λ j. j.0) (λ j. j.1) (λ a b. (a, b)) (λ x. refl)) (thrifty g.K.Field.shape) (λ k. thrifty (g.V.AnyDefinedBy.shapes k)) g.V.AnyDefinedBy.starts g.V.AnyDefinedBy.avoids (thrifty_lawful g.K.Field.shape (g.K.Field.lawful c.requires.fits.0)) (thrifty_family g.V.AnyDefinedBy.shapes g.V.AnyDefinedBy.starts g.V.AnyDefinedBy.avoids g.V.AnyDefinedBy.family) c.requires.fits.1
    c.args.reader.now c.pass_key.new.reader c.pass_behind.new.reader c.stand_at_key.new.reader k.value c.in-Err.error k.accepts (c.in-Err.ensures k.value k.kept) b.headers (⊎_elim (λ s. inl s) (λ s. inr (s ∙ c.spot-spot.ensures.start)) b.at))

pub returns-in-Ok : goal.returns-in-Ok
returns-in-Ok g c =
    let k = c.in_ok-kind.ensures in
    let v = c.in-Ok.ensures k.value k.kept in
    let kk = k.kept in
    let vk = v.kept in
    record {
      value = (k.value, v.value);
      accepts = alike_accepts (defined_by (λ (j : g.row.K.Denot × g.row.V.Denot). j.0) (λ j. j.1) (thrifty g.K.Field.shape) (λ k. thrifty (g.V.AnyDefinedBy.shapes k)) g.V.AnyDefinedBy.starts g.V.AnyDefinedBy.avoids) (thrifty (defined_by (λ (j : g.row.K.Denot × g.row.V.Denot). j.0) (λ j. j.1) g.K.Field.shape g.V.AnyDefinedBy.shapes g.V.AnyDefinedBy.starts g.V.AnyDefinedBy.avoids)) (alike_defined_by (λ (j : g.row.K.Denot × g.row.V.Denot). j.0) (λ j. j.1) g.K.Field.shape g.V.AnyDefinedBy.shapes g.V.AnyDefinedBy.starts g.V.AnyDefinedBy.avoids) c.args.reader.now c.pass_behind.new.reader (k.value, v.value) (defined_by_accepts (λ (j : g.row.K.Denot × g.row.V.Denot). j.0) (λ j. j.1) (same_pair (λ j. j.0) (λ j. j.1) (λ a b. (a, b)) (λ x. refl)) (thrifty g.K.Field.shape) (λ k. thrifty (g.V.AnyDefinedBy.shapes k)) g.V.AnyDefinedBy.starts g.V.AnyDefinedBy.avoids (thrifty_lawful g.K.Field.shape (g.K.Field.lawful c.requires.fits.0)) (thrifty_family g.V.AnyDefinedBy.shapes g.V.AnyDefinedBy.starts g.V.AnyDefinedBy.avoids g.V.AnyDefinedBy.family) c.requires.fits.1
          c.args.reader.now c.pass_key.new.reader c.pass_behind.new.reader (k.value, v.value) k.accepts v.accepts);
      kept = cc;
    }
