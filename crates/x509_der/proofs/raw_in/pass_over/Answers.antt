use Rattle.std.proofs.Common.{ℕ, Bool, ◌&&◌, sym, ◌∙◌}
use Rattle.std.proofs.lemmas.Result.{err_from_is_err_and}
use Rattle.x509_der_parts.specs.Reading.{is_tag}
use Rattle.x509_der_parts.specs.reads.Choice.{begun_cons}
use Rattle.x509_der_parts.specs.reads.Optional.{follows_cons, follows_nil}
use Rattle.x509_der.specs.laws.RawIn.{raws_in_accepts, raws_in_refuses, raws_in_other}
use Rattle.x509_der.proofs.raw_in.pass_over.Goals as goal

pub returns-in_err-element-in-Some-clause-err : goal.returns-in_err-element-in-Some-clause-err
returns-in_err-element-in-Some-clause-err g c =
    let p = err_from_is_err_and c.from_residual.result c.from_residual.ensures.1 in
    rw (p.1, p.2) (raws_in_refuses g.K.Tags.keep c.args.reader.now c.borrowed_element.new.reader _ (begun_cons (λ t. is_tag t && g.K.Tags.keep t) c.in-Some.byte _ c.args.reader.now.rest c.in-Some.ensures.some (sym c.starts_in.ensures ∙ c.if-starts_in.true)) c.in_err-element-in-Some.ensures.err)

pub returns-in_ok-element-in-Some-clause-ok : goal.returns-in_ok-element-in-Some-clause-ok
returns-in_ok-element-in-Some-clause-ok g c = raws_in_accepts g.K.Tags.keep c.args.reader.now c.borrowed_element.new.reader c.in_ok-element-in-Some.element.now (begun_cons (λ t. is_tag t && g.K.Tags.keep t) c.in-Some.byte _ c.args.reader.now.rest c.in-Some.ensures.some (sym c.starts_in.ensures ∙ c.if-starts_in.true)) c.in_ok-element-in-Some.ensures.ok

pub returns-in-Some-2-clause-err : goal.returns-in-Some-2-clause-err
returns-in-Some-2-clause-err g c =
    let s : ℕ → Bool = λ t. is_tag t && g.K.Tags.keep t in
    raws_in_other g.K.Tags.keep c.args.reader.now _ (λ e. cc) (follows_cons s c.in-Some.byte _ c.args.reader.now.rest c.in-Some.ensures.some (sym c.starts_in.ensures ∙ c.if-starts_in.false))

pub returns-in-None-clause-err : goal.returns-in-None-clause-err
returns-in-None-clause-err g c =
    let s : ℕ → Bool = λ t. is_tag t && g.K.Tags.keep t in
    raws_in_other g.K.Tags.keep c.args.reader.now _ (λ e. cc) (follows_nil s c.args.reader.now.rest c.in-None.ensures.none)
