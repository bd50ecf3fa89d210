use Rattle.std.proofs.Common.{◌∙◌}
use Rattle.std.proofs.lemmas.Result.{on_ok_weaker}
use Rattle.x509_make_parts.specs.Appending.{Appends}
use Rattle.x509_make_parts.specs.facts.Appending.{closed, then, is_behind, an_element}
use Rattle.x509_make_keys.proofs.Stays.{stays}
use Rattle.x509_make_keys.proofs.algorithms.raw_algorithm.Goals as goal
use Rattle.x509_make_keys.proofs.algorithms.raw_algorithm.Goals.{in-Some+in_ok-raw_parameters+in_ok-leave_from, in_default+in_ok-element}

pub returns : goal.returns
returns g c =
    let more : Appends c.identified.new.maker.out.items c.match-enter.maker.out.items = elim c.match-enter.branch [ in-Some+in_ok-raw_parameters+in_ok-leave_from w ↦ rw w.maker-is (then _ _ _ w.in_ok-raw_parameters.ensures (stays w.in_ok-leave_from.ensures)) | in_default+in_ok-element w ↦ rw w.maker-is (is_behind _ _ _ w.in_ok-element.ensures) ] in
    let written = then _ _ _ (an_element _ _ _ c.in_ok-identified.ensures) more in
    on_ok_weaker c.close.result (closed _ _ _ _ _ (c.open-start.ensures ∙ c.args.maker.now.out.ok.0) written) c.close.ensures
