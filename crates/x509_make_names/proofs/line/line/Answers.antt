use Rattle.std.proofs.Common.{◌∙◌, sym}
use Rattle.std.proofs.lemmas.Result.{on_ok_weaker}
use Rattle.x509_make_parts.specs.Appending.{Appends}
use Rattle.x509_make_parts.specs.facts.Appending.{closed, is_behind}
use Rattle.std.proofs.Common.{[], append-nil}
use Rattle.x509_make_names.proofs.line.line.Goals as goal
use Rattle.x509_make_names.proofs.line.line.Goals.{in-Some+in_ok-sets_in_order-in-Some, in-None, in-None-2+in_ok-sets_reversed-in-None-2}

pub returns : goal.returns
returns g c =
    let written : Appends c.args.maker.now.out.items c.match-strip_prefix.maker.out.items = elim c.match-strip_prefix.branch [ in-Some+in_ok-sets_in_order-in-Some w ↦ rw w.maker-is w.in_ok-sets_in_order-in-Some.ensures | in-None w ↦ rw w.maker-is (is_behind _ _ [] (sym (append-nil _))) | in-None-2+in_ok-sets_reversed-in-None-2 w ↦ rw w.maker-is w.in_ok-sets_reversed-in-None-2.ensures ] in
    on_ok_weaker c.close.result (closed _ _ _ _ _ (c.open-start.ensures ∙ c.args.maker.now.out.ok.0) written) c.close.ensures
