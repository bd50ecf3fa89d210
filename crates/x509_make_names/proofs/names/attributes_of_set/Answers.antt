use Rattle.std.proofs.Common.{◌∙◌}
use Rattle.std.proofs.lemmas.Result.{on_ok_weaker}
use Rattle.x509_make_names.proofs.Kept.{left_before, one_more_kept, all_kept, in_order}
use Rattle.std.proofs.Common.{◌≡◌, length, arith}
use Rattle.x509_make_names.proofs.names.attributes_of_set.Goals as goal

pub members-preserved : goal.members-preserved
members-preserved g c =
    let begins = c.open-start.ensures ∙ c.args.maker.now.out.ok.0 in
    (left_before _ begins c.members.invariant.0 c.in_ok-assigned.ensures c.in_ok-keep_from.ensures.rest, one_more_kept _ c.in_ok-keep_from.ensures.kept c.members.invariant.1, all_kept _ begins c.members.invariant.0 c.in_ok-assigned.ensures c.in_ok-keep_from.ensures.kept c.members.invariant.2)

pub returns : goal.returns
returns g c =
    let many : length c.members.elements.items ≡ length c.args.members.now = omega (arith, c.members.invariant.1, c.members-test.false, c.members.auto.index-end) in
    on_ok_weaker c.put_sorted.result (in_order _ many c.members.invariant.0 c.members.invariant.2) c.put_sorted.ensures
