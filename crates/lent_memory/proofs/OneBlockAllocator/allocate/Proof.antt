-- `allocate` asks `take` for the memory, and hands out what it gives. Assumes `Logic`.
use Rattle.std.proofs.Common.{ℕ, ◌≤◌, [], ◌∷◌, Ok, Err, refl, w64, lit<, subst}
use mir.Syntax.{named}
use base.Logic.{id⊢}
use contract.Monad.{fact}
use contract.Running.{tables}
use types.Kit.{‵, raw, ◌⊛◌, some, later, at_ret, ◌$◌, ◌∵◌, !, qed, done, drop, move, use0, use1, split, join, pick, await, rewrite, suffices, group}
use types.Part.{whole, sub, agg}
use prog.Memory.{size}
use types.Match.{vrt, in_variant, by_variants}
use types.Run.{enter, of_opd, lit, stop, fld, no_more, and_then, first, exec, returns}
use types.ByLocal.{alloc_all, pass_all, free_all, look_at, get, get_in, get_tag, sets, sets_last, lands_as, env}
use denote.Builtin.{usize, RefOf}
use denote.Exit.{yes}
use denote.Plain.{uint_vals, uint_Tells}
use denote.Ref.{shr_vals, shr_Tells}
use denote.Signature.{Slot, plain}
use denote.Steps.{nothing, heard}
use denote.Triple.Call.{calls_at}
use denote.Triple.Clauses.{Lasts, lasts}
use denote.Triple.Entry.{alive, on_entry}
use denote.Triple.Spec.{triple_of}
use denote.Triple.Table.{framed}
use denote.Triple.Walked.{Stays, stay_dropped, walk_of, Goes-dropped, ends_at}
use Rattle.std.proofs.raw_atomic.Walks.{proved}
use Rattle.std.specs.Prelude.{alloc_error}
use Rattle.core.specs.Allocator.{HasLayout, owned_block}
use Rattle.lent_memory.specs.contracts.OneBlock.{the_row as O}
use Rattle.lent_memory.specs.contracts.OneBlock.take as g
use Rattle.lent_memory.proofs.OneBlock.take.Met.{met}
use Rattle.lent_memory.specs.contracts.OneBlockAllocator.allocate as f
use Rattle.lent_memory.proofs.OneBlockAllocator.allocate.Statement.{statement}
use Rattle.lent_memory.proofs.OneBlockAllocator.allocate.Code as code
use Rattle.lent_memory.specs.Lending.{lent_at, lent_token}
use Rattle.lent_memory.proofs.Lending.{is_place, is_word}
use Rattle.lent_memory.proofs.Blocks.{also, is_size, handed, Answer, placed, refused, answers_place, answers_refused}
use Rattle.lent_memory.proofs.Offers.{Offer, Offers, offered}

abbrev self : Slot 1
self = RefOf (0 ∷ []) tt (plain (λ _. O)) (λ _. tt)

abbrev stayed : Stays f.ended.signature.params f.ended.kept
stayed = (stay_dropped _ yes, (stay_dropped _ yes, (stay_dropped _ yes, tt)))

pub allocate_spec : {M : Type 1} → statement M
allocate_spec 𝓤 𝓛 𝓜 𝓡 wired =
    let c = f.clauses 𝓛 𝓜.mem 𝓡.returns in let W = walk_of 𝓛 f.ended stayed c in let 𝓣 = tables 𝓤 𝓛.H 𝓜 𝓡 𝓡.env in
    let number = Goes-dropped 𝓛 1 (plain (λ _. usize)) yes (λ κs x w. refl) in
    proved 𝓛 f.ended stayed c 𝓜 𝓡 (Goes-dropped 𝓛 1 self yes (λ κs x w. refl), (number, (number, tt)))
    f.Key.name code.function (code.unfolded 𝓤 𝓛.H 𝓜 𝓡 wired)
    (λ κs. (shr_vals, (uint_vals w64, (uint_vals w64, tt)))) (λ κs. (shr_Tells (named 0) κs.0 O, (uint_Tells w64, (uint_Tells w64, tt)))) (λ κs qs bounds a τ are.
    let r = a.0 in let n = a.1.0 in let w = r.now.whole in
    let y : W.Ghost = ((κs, qs, bounds, a, (shr_vals r, (uint_vals w64 n, (uint_vals w64 a.1.1.0, tt)))), τ) in
    let G = triple_of 𝓛 g.signature (g.spec 𝓛 𝓜.mem 𝓡.returns) in
    let z : G.Ghost = (y.0, tt) in
    qed 𝓛 (raw (on_entry 𝓛 f.signature κs qs a y.0.4) ∷ raw (fact 𝓤 (HasLayout τ n a.1.1.0)) ∷ []) ∵ move ! (1 ∷ []) $ heard ! _ (λ asked.
    nothing ! $ move ! (1 ∷ 0 ∷ []) $ join ! $ use1 𝓛 (raw (G.pre z)) (id⊢ 𝓤 _) $
    enter ! _ _ _ _ _ $ alloc_all ! (λ l. pass_all ! refl ((tt, tt), ((tt, record { fits = are.1.0.1 }), ((tt, record { fits = are.1.1.0.1 }), tt))) $
    calls_at ! (framed 𝓤 𝓛.H 𝓜 𝓣) G (met 𝓤 𝓛 𝓜 𝓡 (code.calls-lent_memory::OneBlock::take 𝓡.env wired)) z
    (and_then ! (get ! refl) (and_then ! (get ! refl) (and_then ! (get ! refl) (no_more !)))) (λ v.
    use1 𝓛 (later (some (λ (x : Offer.Denot). (raw (alive 𝓛 f.signature κs qs) ⊛ ‵ (Offer.own_val x (v ∷ []))) ⊛
    some (λ (ls : Lasts g.ended κs a). ‵ (lasts g.ended κs a ls) ⊛ raw (fact 𝓤 (Offers w n x)))))) (id⊢ 𝓤 (G.post z v)) $
    await ! tt $ pick ! (λ x. split ! $ move ! (1 ∷ []) $ pick ! (λ _. split ! $ drop ! $ heard ! _ (λ said. split ! $ move ! (1 ∷ []) $
    -- [what `take` gave; the tokens; the locals]
    offered ! w n x v said
    (λ lent is small was. let p = lent.at in let at_p = is_place p in
    rewrite ! 0 (λ (k : ℕ). ‵ (lent_at p k)) is.0 refl $
    lands_as ! was refl (also _ (is_word p lent.size small).0, (record { fits = lit< tt }, ((is_word p lent.size small).1, tt))) $
    first ! $ by_variants ! 6 (whole !) (get_tag ! (vrt ! refl (fld ! refl (stop !))) (whole !)) tt (
      (λ _. sets ! (of_opd ! (get_in ! (vrt ! refl (fld ! refl (fld ! refl (stop !)))) (sub ! 0 refl (in_variant ! 1 0 refl refl (whole !))))) refl at_p $
          sets_last ! (agg ! (and_then ! (lit ! tt) (and_then ! (get ! refl) (no_more !)))) refl (also _ at_p.0, (record { fits = lit< tt }, (at_p.1, tt))) $
          exec ! 𝓣.C 𝓣.Λ (env code.Mir.locals l) code.Mir.t-3 (at_ret _ (W.post y)) $
          sets ! (of_opd ! (get ! refl)) refl (also _ at_p.0, (record { fits = lit< tt }, (at_p.1, tt))) $
          returns ! (look_at ! 0 refl) $ free_all ! refl $
          suffices ! _ (ends_at 𝓛 f.ended stayed c y (placed p) (Ok p) (tt, (tt, (tt, tt))) (tt, (tt, (tt, tt)))) $
          use1 𝓛 (‵ (owned_block (lent_token w) τ p)) (handed 𝓛 τ p w n (is_size (size τ) n asked.0 is.2) is.2 is.3 (subst (λ (k : ℕ). n ≤ k) is.0 is.1)) $
          use0 𝓛 (‵ (Answer.own_val (Ok p) (placed p ∷ []))) (answers_place 𝓛 p) $
          nothing ! $ nothing ! $ join ! $ nothing ! $ join ! $ nothing ! $ join ! $ move ! (3 ∷ []) $ group ! 3 $ done !),
      ((λ other. absurd (cc)), tt),
    ))
    (λ was. lands_as ! was refl (tt, (record { fits = lit< tt }, tt)) $
    first ! $ by_variants ! 5 (whole !) (get_tag ! (vrt ! refl (fld ! refl (stop !))) (whole !)) tt (
      (λ other. absurd (cc)),
      (
        (λ _. sets ! (agg ! (no_more !)) refl (tt, tt) $
            sets_last ! (agg ! (and_then ! (lit ! tt) (and_then ! (get ! refl) (no_more !)))) refl (tt, (record { fits = lit< tt }, (tt, tt))) $
            exec ! 𝓣.C 𝓣.Λ (env code.Mir.locals l) code.Mir.t-3 (at_ret _ (W.post y)) $
            sets ! (of_opd ! (get ! refl)) refl (tt, (record { fits = lit< tt }, (tt, tt))) $
            returns ! (look_at ! 0 refl) $ free_all ! refl $
            suffices ! _ (ends_at 𝓛 f.ended stayed c y refused (Err alloc_error) (tt, (tt, (tt, tt))) (tt, (tt, (tt, tt)))) $
            nothing ! $ use0 𝓛 (‵ (Answer.own_val (Err alloc_error) (refused ∷ []))) (answers_refused 𝓛) $
            nothing ! $ nothing ! $ join ! $ nothing ! $ join ! $ nothing ! $ join ! $ move ! (3 ∷ []) $ group ! 3 $ done !),
        tt,
      ),
    )))))))))
