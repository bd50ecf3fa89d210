use Rattle.std.proofs.Common.{◌∙◌}
use Rattle.std.proofs.lemmas.Result.{on_ok_weaker}
use Rattle.x509_make_parts.specs.Appending.{Appends}
use Rattle.x509_make_parts.specs.facts.Appending.{closed, then, is_behind, an_element}
use Rattle.x509_make_keys.proofs.Stays.{stays}
use Rattle.x509_make_fields.proofs.requests.request_info.Goals as goal
use Rattle.x509_make_fields.proofs.requests.request_info.Goals.{in-Some+in_ok-attributes+in_ok-leave_from, in_default+in_ok-element}

pub returns : goal.returns
returns g c =
    let more : Appends c.key_member.new.maker.out.items c.match-enter.maker.out.items = elim c.match-enter.branch [ in-Some+in_ok-attributes+in_ok-leave_from w ↦ rw w.maker-is (then _ _ _ (an_element _ _ _ w.in_ok-attributes.ensures) (stays w.in_ok-leave_from.ensures)) | in_default+in_ok-element w ↦ rw w.maker-is (is_behind _ _ _ w.in_ok-element.ensures) ] in
    let written = then _ _ _ (then _ _ _ (then _ _ _ (an_element _ _ _ c.in_ok-version.ensures) (an_element _ _ _ c.in_ok-name_member.ensures)) c.in_ok-key_member.ensures) more in
    on_ok_weaker c.close.result (closed _ _ _ _ _ (c.open-start.ensures ∙ c.args.maker.now.out.ok.0) written) c.close.ensures
