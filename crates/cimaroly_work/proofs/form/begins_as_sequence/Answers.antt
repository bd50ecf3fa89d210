use Rattle.std.proofs.Common.{sym, subst}
use Rattle.std.proofs.lemmas.Str.Ascii.{trim_ascii_start_is}
use Rattle.cimaroly_work.specs.Forms.{SequenceInFront}
use Rattle.cimaroly_work.proofs.form.begins_as_sequence.Goals as goal

pub returns : goal.returns
returns c =
    let e = trim_ascii_start_is c.args.bytes.now c.trim_ascii_start.result.now c.trim_ascii_start.ensures.value in
    let found = c.is_sequence_in_front.ensures in
    (λ told. subst SequenceInFront e (found.0 told), λ h. found.1 (subst SequenceInFront (sym e) h))
