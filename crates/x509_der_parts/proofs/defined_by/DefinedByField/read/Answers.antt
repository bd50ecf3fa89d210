use Rattle.std.proofs.Common.{refl, ◌∙◌, inl, inr, ⊎_elim}
use Rattle.std.proofs.lemmas.Result.{err_from_is_err_and}
use Rattle.x509_der_parts.specs.facts.Lists.{same_pair}
use Rattle.x509_der_parts.specs.reads.DefinedBy.{defined_by_accepts, key_refuses, value_refuses}
use Rattle.x509_der_parts.proofs.defined_by.DefinedByField.read.Goals as goal

pub returns-in_err-key : goal.returns-in_err-key
returns-in_err-key g c =
    let p = err_from_is_err_and c.from_residual.result c.from_residual.ensures.1 in
    rw (p.1, p.2) (key_refuses (λ (j : g.row.K.Denot × g.row.V.Denot). j.0) (λ j. j.1) (same_pair (λ j. j.0) (λ j. j.1) (λ a b. (a, b)) (λ x. refl)) g.K.Field.shape g.V.AnyDefinedBy.shapes g.V.AnyDefinedBy.starts g.V.AnyDefinedBy.avoids (g.K.Field.lawful c.requires.fits.0) g.V.AnyDefinedBy.family c.requires.fits.1
    c.args.reader.now c.read.new.reader _ c.in_err-key.ensures)

pub returns-in-Err : goal.returns-in-Err
returns-in-Err g c =
    let b = c.stand_at_key.ensures in
    value_refuses (λ (j : g.row.K.Denot × g.row.V.Denot). j.0) (λ j. j.1) (same_pair (λ j. j.0) (λ j. j.1) (λ a b. (a, b)) (λ x. refl)) g.K.Field.shape g.V.AnyDefinedBy.shapes g.V.AnyDefinedBy.starts g.V.AnyDefinedBy.avoids (g.K.Field.lawful c.requires.fits.0) g.V.AnyDefinedBy.family c.requires.fits.1
    c.args.reader.now c.read.new.reader c.read_behind.new.reader c.stand_at_key.new.reader c.in_ok-key.key c.in-Err.error c.in_ok-key.ensures c.in-Err.ensures b.headers (⊎_elim (λ s. inl s) (λ s. inr (s ∙ c.spot-spot.ensures.start)) b.at)

pub returns-in-Ok : goal.returns-in-Ok
returns-in-Ok g c =
    defined_by_accepts (λ (j : g.row.K.Denot × g.row.V.Denot). j.0) (λ j. j.1) (same_pair (λ j. j.0) (λ j. j.1) (λ a b. (a, b)) (λ x. refl)) g.K.Field.shape g.V.AnyDefinedBy.shapes g.V.AnyDefinedBy.starts g.V.AnyDefinedBy.avoids (g.K.Field.lawful c.requires.fits.0) g.V.AnyDefinedBy.family c.requires.fits.1
    c.args.reader.now c.read.new.reader c.read_behind.new.reader (c.in_ok-key.key, c.in-Ok.value) c.in_ok-key.ensures c.in-Ok.ensures
