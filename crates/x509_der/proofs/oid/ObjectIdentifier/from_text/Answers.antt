use Rattle.std.proofs.Common.{arith, inr, refl, sym, ◌∙◌, length, lit<}
use Rattle.std.proofs.lemmas.List.{take_all, length_push}
use Rattle.std.proofs.lemmas.Iterator.Splits.{YieldsList-from_str_split}
use Rattle.std.proofs.lemmas.Iterator.Consumers.{YieldsList-turn, YieldsList-end}
use Rattle.std.proofs.lemmas.Bool.{false≢true}
use Rattle.x509_der.proofs.Texts.{refused_piece, refused_arcs, text_from_pieces, spelled_more, all_fit-push, all_fit-nil}
use Rattle.x509_der.proofs.oid.ObjectIdentifier.from_text.Goals as goal

pub returns-in_default-clause-bad : goal.returns-in_default-clause-bad
returns-in_default-clause-bad g c =
    let turn = YieldsList-turn (YieldsList-from_str_split 46 c.args.text.now (lit< tt) (cc) (cc) (cc)) c.loop-piece.yielded _ c.loop-piece.yielded_by _ _ c.in-Some.piece c.in-Some.is c.next.ensures.steps in
    inr (refl, refused_piece c.args.text.now (length c.loop-piece.yielded) c.in-Some.piece.now turn c.in_default.ensures)

pub loop-piece-preserved : goal.loop-piece-preserved
loop-piece-preserved g c =
    let turn = YieldsList-turn (YieldsList-from_str_split 46 c.args.text.now (lit< tt) (cc) (cc) (cc)) c.loop-piece.yielded _ c.loop-piece.yielded_by _ _ c.in-Some.piece c.in-Some.is c.next.ensures.steps in (
      tt,
      tt,
      rw (c.in_ok-push.ensures.items, length_push) (spelled_more _ _ _ _ c.in-Some.piece.now c.loop-piece.invariant.2 turn c.in-Some-read_arc.ensures.1),
      rw c.in_ok-push.ensures.items (all_fit-push _ _ c.loop-piece.invariant.3 c.in-Some-read_arc.ensures.0),
    )

pub returns-then-not-is_lawful-clause-bad : goal.returns-then-not-is_lawful-clause-bad
returns-then-not-is_lawful-clause-bad g c =
    let end = YieldsList-end (YieldsList-from_str_split 46 c.args.text.now (lit< tt) (cc) (cc) (cc)) c.loop-piece.yielded _ c.loop-piece.yielded_by _ _ c.in-None.is c.next.ensures.steps in
    inr (refl, refused_arcs c.args.text.now c.loop-piece.arcs.items (c.loop-piece.invariant.2 ∙ take_all _ _ (omega (arith, end.1))) c.loop-piece.invariant.3 (λ law. absurd (false≢true (sym c.if-not-is_lawful.true ∙ c.is_lawful.ensures.1 (rw c.deref.ensures.value law)))))

pub returns-clause-ok : goal.returns-clause-ok
returns-clause-ok g c =
    let end = YieldsList-end (YieldsList-from_str_split 46 c.args.text.now (lit< tt) (cc) (cc) (cc)) c.loop-piece.yielded _ c.loop-piece.yielded_by _ _ c.in-None.is c.next.ensures.steps in
    rw (c.in_ok-identifier.ensures.ok, c.deref-2.ensures.value) (rw c.deref.ensures.value at (c.is_lawful.ensures.0 c.if-not-is_lawful.false), text_from_pieces c.args.text.now c.loop-piece.arcs.items (c.loop-piece.invariant.2 ∙ take_all _ _ (omega (arith, end.1))))

pub loop-piece-init : goal.loop-piece-init
loop-piece-init g c = rw c.new-arcs.ensures.items (tt, tt, refl, all_fit-nil)
