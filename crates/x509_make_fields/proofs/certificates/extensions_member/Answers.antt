use Rattle.std.proofs.Common.{◌∙◌}
use Rattle.x509_make_parts.specs.Appending.{Appends}
use Rattle.x509_make_parts.specs.facts.Appending.{closed, then, an_element}
use Rattle.x509_make_keys.proofs.Stays.{nothing, stays}
use Rattle.x509_make_fields.proofs.certificates.extensions_member.Goals as goal
use Rattle.x509_make_fields.proofs.certificates.extensions_member.Goals.{in-Some+in_ok-leave_from, then-is_any+in_ok-extensions+in_ok-close, else-is_any, in_default}

pub returns : goal.returns
returns g c = elim c.match-enter.branch [
  | in-Some+in_ok-leave_from w ↦ rw w.maker-is (
      let more : Appends c.args.maker.now.out.items w.if-is_any.maker.out.items = elim w.if-is_any.branch [ then-is_any+in_ok-extensions+in_ok-close w' ↦ rw w'.maker-is (an_element _ _ _ (closed _ _ _ _ _ (c.open-start.ensures ∙ c.args.maker.now.out.ok.0) (an_element _ _ _ w'.in_ok-extensions.ensures) w'.in_ok-close.ensures)) | else-is_any w' ↦ rw w'.maker-is (nothing _) ] in
      then _ _ _ more (stays w.in_ok-leave_from.ensures))
  | in_default w ↦ rw w.maker-is (nothing _)
]
