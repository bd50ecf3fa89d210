use Rattle.std.proofs.Common.{◌∙◌}
use Rattle.std.proofs.lemmas.Result.{on_ok_weaker}
use Rattle.x509_make_parts.specs.Appending.{Appends}
use Rattle.x509_make_parts.specs.facts.Appending.{closed, then, is_behind}
use Rattle.x509_make_keys.proofs.Stays.{nothing, stays}
use Rattle.x509_make_keys.proofs.algorithms.algorithm.Goals as goal
use Rattle.x509_make_keys.proofs.algorithms.algorithm.Goals.{in-Some+in_ok-parameters+in_ok-leave_from, in_default-enter+then-has_null+in_ok-element, in_default-enter+else-has_null}

pub returns : goal.returns
returns g c =
    let more : Appends c.put_identifier.new.maker.out.items c.match-enter.maker.out.items = elim c.match-enter.branch [ in-Some+in_ok-parameters+in_ok-leave_from w ↦ rw w.maker-is (then _ _ _ w.in_ok-parameters.ensures (stays w.in_ok-leave_from.ensures)) | in_default-enter+then-has_null+in_ok-element w ↦ rw w.maker-is (is_behind _ _ _ w.in_ok-element.ensures) | in_default-enter+else-has_null w ↦ rw w.maker-is (nothing _) ] in
    let written = then _ _ _ (is_behind _ _ _ c.in_ok-put_identifier.ensures) more in
    on_ok_weaker c.close.result (closed _ _ _ _ _ (c.open-start.ensures ∙ c.args.maker.now.out.ok.0) written) c.close.ensures
