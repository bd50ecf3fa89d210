use Rattle.std.proofs.Common.{◌∙◌, refl}
use Rattle.std.proofs.lemmas.Result.{on_ok_weaker}
use Rattle.x509_make_names.proofs.Kept.{left_before, all_kept, in_order}
use Rattle.x509_make_names.proofs.line.attributes_of_line.Goals as goal

pub attributes-preserved : goal.attributes-preserved
attributes-preserved g c =
    let begins = c.open-start.ensures ∙ c.args.maker.now.out.ok.0 in
    (left_before _ begins c.attributes.invariant.0 c.in_ok-assignment.ensures c.in_ok-keep_from.ensures.rest, all_kept _ begins c.attributes.invariant.0 c.in_ok-assignment.ensures c.in_ok-keep_from.ensures.kept c.attributes.invariant.1)

pub returns : goal.returns
returns g c = on_ok_weaker c.put_sorted.result (λ s. (_, in_order _ refl c.attributes.invariant.0 c.attributes.invariant.1 s)) c.put_sorted.ensures
