use Rattle.std.proofs.Common.{◌∙◌}
use Rattle.std.proofs.lemmas.Result.{on_ok_weaker}
use Rattle.x509_make_parts.specs.Appending.{Appends}
use Rattle.x509_make_parts.specs.facts.Appending.{closed, is_behind}
use Rattle.x509_make_names.proofs.names.set.Goals as goal
use Rattle.x509_make_names.proofs.names.set.Goals.{then-has_items+in_ok-finish+in_ok-items_of_set, else-has_items+in_ok-members_of_set}

pub returns : goal.returns
returns g c =
    let written : Appends c.args.maker.now.out.items c.if-has_items.maker.out.items = elim c.if-has_items.branch [ then-has_items+in_ok-finish+in_ok-items_of_set w ↦ rw w.maker-is w.in_ok-items_of_set.ensures | else-has_items+in_ok-members_of_set w ↦ rw w.maker-is (is_behind _ _ _ w.in_ok-members_of_set.ensures.1.behind) ] in
    on_ok_weaker c.close.result (closed _ _ _ _ _ (c.open-start.ensures ∙ c.args.maker.now.out.ok.0) written) c.close.ensures
