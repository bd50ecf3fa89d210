use Rattle.std.proofs.Common.{sym, ◌∙◌}
use Rattle.std.proofs.lemmas.Result.{err_from_is_err_and}
use Rattle.x509_der.specs.Shape.{Follows}
use Rattle.x509_der.specs.RawIn.{raws_in}
use Rattle.x509_der.specs.laws.RawIn.{raws_in_lawful}
use Rattle.x509_der.specs.reads.Optional.{optional_absent, optional_there, optional_refuses, follows_cons, follows_nil}
use Rattle.x509_keys.specs.facts.Skipping.{skip_full}
use Rattle.x509_keys.proofs.skipping.pass_over_next.Goals as goal
use Rattle.x509_keys.proofs.skipping.pass_over_next.Goals.{in_default-via-in-Some+else-starts, in_default-via-in_default}

pub returns-in_err-element-in-Some : goal.returns-in_err-element-in-Some
returns-in_err-element-in-Some g c =
    let s = raws_in g.K.Tags.keep in
    let p = err_from_is_err_and c.from_residual.result c.from_residual.ensures.1 in
    rw (p.1, p.2) (optional_refuses s (raws_in_lawful g.K.Tags.keep) (skip_full g.K.Tags.keep) c.args.reader.now c.pass_over.new.reader _ c.in-Some.byte _ c.in-Some.ensures.some (sym c.starts.ensures ∙ c.if-starts.true) c.in_err-element-in-Some.ensures.err)

pub returns-in_ok-element-in-Some : goal.returns-in_ok-element-in-Some
returns-in_ok-element-in-Some g c =
    let s = raws_in g.K.Tags.keep in
    optional_there s (raws_in_lawful g.K.Tags.keep) (skip_full g.K.Tags.keep) c.args.reader.now c.pass_over.new.reader c.in_ok-element-in-Some.element.now c.in-Some.byte _ c.in-Some.ensures.some (sym c.starts.ensures ∙ c.if-starts.true) c.in_ok-element-in-Some.ensures.ok

pub returns-in_default : goal.returns-in_default
returns-in_default g c =
    let s = raws_in g.K.Tags.keep in
    let f : Follows s.starts c.args.reader.now.rest = elim c.in_default.branch [
      | in_default-via-in-Some+else-starts w ↦ follows_cons s.starts w.in-Some.byte _ _ w.in-Some.ensures.some (sym w.starts.ensures ∙ w.if-starts.false)
      | in_default-via-in_default w ↦ follows_nil s.starts c.args.reader.now.rest (w.in_default.ensures.none)
    ] in
    optional_absent s (raws_in_lawful g.K.Tags.keep) (skip_full g.K.Tags.keep) c.args.reader.now c.requires f
