use Rattle.std.proofs.Common.{◌∙◌}
use Rattle.std.proofs.lemmas.Result.{on_ok_weaker}
use Rattle.x509_make_parts.specs.facts.Appending.{closed, then, is_behind, an_element}
use Rattle.x509_make_keys.proofs.Stays.{stays}
use Rattle.x509_make_keys.proofs.private_keys.private_key_info.Goals as goal

pub returns : goal.returns
returns g c =
    let written = (then _ _ _ (then _ _ _ (then _ _ _ (then _ _ _ (is_behind _ _ _ c.in_ok-number.ensures) (an_element _ _ _ c.in_ok-algorithm_member.ensures)) (an_element _ _ _ c.in_ok-key_octets.ensures)) (stays c.in_ok-leave_from.ensures)) c.in_ok-public_bits.ensures) in
    on_ok_weaker c.close.result (closed _ _ _ _ _ (c.open-start.ensures ∙ c.args.maker.now.out.ok.0) written) c.close.ensures
