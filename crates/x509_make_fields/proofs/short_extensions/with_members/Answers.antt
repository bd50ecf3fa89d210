use Rattle.std.proofs.Common.{◌∙◌}
use Rattle.std.proofs.lemmas.Result.{on_ok_weaker}
use Rattle.x509_make_parts.specs.facts.Appending.{closed, then, an_element}
use Rattle.x509_make_fields.proofs.short_extensions.with_members.Goals as goal

pub returns : goal.returns
returns g c = on_ok_weaker c.close-2.result (λ e. then _ _ _ c.in_ok-critical.ensures (an_element _ _ _ (closed _ _ _ _ _ (c.open-string.ensures ∙ c.critical.new.maker.out.ok.0) c.in_ok-held-2.ensures e))) c.close-2.ensures
