use Rattle.std.proofs.Common.{sym, ◌∙◌, ap, refl, Some, None}
use Rattle.x509_der_parts.specs.Shape.{Follows}
use Rattle.x509_der_parts.specs.Optional.{optional}
use Rattle.x509_der_parts.specs.Reading.{thrifty}
use Rattle.x509_der_parts.specs.laws.NotEmpty.{full}
use Rattle.x509_der_parts.specs.reads.Optional.{optional_absent, optional_there, follows_cons, follows_nil}
use Rattle.x509_der_parts.specs.reads.Passing.{alike_optional, alike_itself, thrifty_lawful, thrifty_element, alike_accepts}
use Rattle.x509_der_parts.proofs.optional.OptionalField.pass.Goals as goal
use Rattle.x509_der_parts.proofs.optional.OptionalField.pass.Goals.{in_default-via-in-Some+else-starts, in_default-via-in_default}

pub returns-in_ok-brief-in-Some : goal.returns-in_ok-brief-in-Some
returns-in_ok-brief-in-Some g c =
    let s = g.F.Field.shape in
    let h = c.in_ok-brief-in-Some.ensures in
    record {
      value = Some h.value;
      accepts = alike_accepts (optional (thrifty s)) (thrifty (optional s)) (alike_optional s) c.args.reader.now c.pass.new.reader (Some h.value) (optional_there (thrifty s) (thrifty_lawful s (g.F.Field.lawful c.requires.fits.0)) (full (thrifty s) (thrifty_element s (g.F.Field.elements c.requires.fits.1))) c.args.reader.now c.pass.new.reader h.value c.in-Some.byte _ c.in-Some.ensures.some (sym c.starts.ensures ∙ c.if-starts.true) h.accepts);
      kept = ap Some h.kept;
    }

pub returns-in_default : goal.returns-in_default
returns-in_default g c =
    let s = g.F.Field.shape in
    let f : Follows s.starts c.args.reader.now.rest = elim c.in_default.branch [
      | in_default-via-in-Some+else-starts w ↦ follows_cons s.starts w.in-Some.byte _ _ w.in-Some.ensures.some (sym w.starts.ensures ∙ w.if-starts.false)
      | in_default-via-in_default w ↦ follows_nil s.starts c.args.reader.now.rest (w.in_default.ensures.none)
    ] in
    record { value = None; accepts = alike_accepts (optional s) (thrifty (optional s)) (alike_itself (optional s)) c.args.reader.now c.args.reader.now None (optional_absent s (g.F.Field.lawful c.requires.fits.0) (full s (g.F.Field.elements c.requires.fits.1)) c.args.reader.now c.requires.ready f); kept = refl }
