use Rattle.std.proofs.Common.{◌∙◌}
use Rattle.std.proofs.lemmas.Result.{on_ok_weaker}
use Rattle.x509_make_parts.specs.facts.Appending.{closed, then, an_element}
use Rattle.x509_make_keys.proofs.algorithms.pss.Goals as goal

pub returns : goal.returns
returns g c =
    let first = closed _ _ _ _ _ (c.open-start.ensures ∙ c.args.maker.now.out.ok.0) (an_element _ _ _ c.in_ok-hash.ensures) c.in_ok-close.ensures in
    let second = closed _ _ _ _ _ (c.open-second.ensures ∙ c.close.new.self.out.ok.0) (an_element _ _ _ c.in_ok-mask.ensures) c.in_ok-close-2.ensures in
    let third = closed _ _ _ _ _ (c.open-third.ensures ∙ c.close-2.new.self.out.ok.0) (an_element _ _ _ c.in_ok-integer.ensures) c.in_ok-close-3.ensures in
    let written = then _ _ _ (then _ _ _ (an_element _ _ _ first) (an_element _ _ _ second)) (an_element _ _ _ third) in
    on_ok_weaker c.close-4.result (closed _ _ _ _ _ (c.open-start.ensures ∙ c.args.maker.now.out.ok.0) written) c.close-4.ensures
