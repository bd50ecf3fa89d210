use Rattle.std.proofs.Common.{◌∙◌}
use Rattle.std.proofs.lemmas.Result.{on_ok_weaker}
use Rattle.x509_make_parts.specs.Appending.{Appends}
use Rattle.x509_make_parts.specs.facts.Appending.{closed, then, is_behind, an_element}
use Rattle.x509_make_fields.proofs.attributes.attribute.Goals as goal
use Rattle.x509_make_fields.proofs.attributes.attribute.Goals.{then-has+in_ok-attribute_values, else-has+in_ok-set_given}

pub returns : goal.returns
returns g c =
    let more : Appends c.put_identifier.new.maker.out.items c.if-has.maker.out.items = elim c.if-has.branch [ then-has+in_ok-attribute_values w ↦ rw w.maker-is (an_element _ _ _ w.in_ok-attribute_values.ensures) | else-has+in_ok-set_given w ↦ rw w.maker-is w.in_ok-set_given.ensures ] in
    let written = then _ _ _ (is_behind _ _ _ c.in_ok-put_identifier.ensures) more in
    on_ok_weaker c.close.result (closed _ _ _ _ _ (c.open-start.ensures ∙ c.args.maker.now.out.ok.0) written) c.close.ensures
