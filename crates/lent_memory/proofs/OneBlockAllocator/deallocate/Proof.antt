-- `deallocate` has the whole memory from the block and its token, and puts it back. Assumes `Logic`.
use Rattle.std.proofs.Common.{◌≡◌, ℕ, ◌^◌, ◌<◌, List, [], ◌∷◌, ◌++◌, refl, ap, subst, ◌∙◌, w64}
use mir.Syntax.{Ty}
use mir.Val.{Val, vint, vptr, vunit}
use base.Logic.{id⊢, apply∗}
use base.Fml.{ftrue, flt}
use denote.Shadow.{pure_l}
use prog.Memory.{size, align, capped}
use prog.Wp.{WpFn}
use contract.Monad.{fact}
use contract.Running.{tables}
use types.Logic.{sem}
use types.Kit.{‵, raw, ◌⊛◌, some, later, prop, ◌$◌, ◌∵◌, !, qed, by, move, drop, use0, use1, use2, split, split3, join, pick, regoal, fsplit, fjoin, feq_l, feq_i, await}
use types.Part.{agg}
use types.Run.{unit_lit, of_opd, no_more, and_then, returns, enter}
use types.ByLocal.{alloc_all, pass_all, free_all, look_at, get, sets, lands_as}
use denote.RattleType.{owns}
use denote.Builtin.{usize, unit, RefOf, RawPtr}
use denote.Exit.{yes}
use denote.Opens.{shr_dup}
use denote.RawPtr.{Ptr, room_for}
use denote.Signature.{Slot, plain, types_at}
use denote.Steps.{nothing, only, heard}
use denote.Triple.Entry.{alive}
use denote.Triple.Spec.{triple_of}
use denote.Triple.Call.{calls_at}
use denote.Triple.Clauses.{Lasts, lasts}
use denote.Triple.Table.{framed}
use denote.Triple.Walked.{Stays, stay_dropped, walk_of, Goes-dropped}
use Rattle.std.proofs.raw_atomic.Walks.{proved_at, leaves}
use Rattle.lent_memory.specs.Lending.{lent_at, lent_token}
use Rattle.lent_memory.proofs.Lending.{word, fields_at, words, is_place, is_word}
use Rattle.lent_memory.specs.contracts.Lent.{the_row as R}
use Rattle.lent_memory.specs.contracts.OneBlock.{the_row as O}
use Rattle.lent_memory.proofs.OneBlock.TheLaws.{the_row_laws}
use Rattle.lent_memory.specs.contracts.OneBlock.size as g
use Rattle.lent_memory.proofs.OneBlock.size.Met.{met as sizes}
use Rattle.lent_memory.specs.contracts.OneBlock.put as k
use Rattle.lent_memory.proofs.OneBlock.put.Met.{met as puts}
use Rattle.lent_memory.specs.contracts.OneBlockAllocator.deallocate as f
use Rattle.lent_memory.proofs.OneBlockAllocator.deallocate.Statement.{statement}
use Rattle.lent_memory.proofs.OneBlockAllocator.deallocate.Code as code

abbrev self : Slot 1
self = RefOf (0 ∷ []) tt (plain (λ _. O)) (λ _. tt)

abbrev stayed : Stays f.ended.signature.params f.ended.kept
stayed = (stay_dropped _ yes, (stay_dropped _ yes, (stay_dropped _ yes, (stay_dropped _ yes, tt))))

pub deallocate_spec : {M : Type 1} → statement M
deallocate_spec 𝓤 𝓛 𝓜 𝓡 wired =
    let c = f.clauses 𝓛 𝓜.mem 𝓡.returns in let W = walk_of 𝓛 f.ended stayed c in let 𝓣 = tables 𝓤 𝓛.H 𝓜 𝓡 𝓡.env in
    let number = Goes-dropped 𝓛 1 (plain (λ _. usize)) yes (λ κs x w. refl) in
    proved_at 𝓛 f.ended stayed c 𝓜 𝓡 (Goes-dropped 𝓛 1 self yes (λ κs x w. refl), (Goes-dropped 𝓛 1 (plain (λ _. RawPtr)) yes (λ κs x w. refl), (number, (number, tt))))
    f.Key.name code.function (code.unfolded 𝓤 𝓛.H 𝓜 𝓡 wired) (λ y are.
    let a = y.0.3 in let r = a.0 in let one = r.now in let τ : Ty = y.1 in let p : Ptr = a.1.0 in let n = a.1.1.0 in let al = a.1.1.1.0 in
    let κs = y.0.0 in let me : Val = vptr r.ref_ptr.0 r.ref_ptr.1 in let w = one.whole in
    let Asked : Type 0 = (capped (size τ) ≡ n) × (capped (align τ) ≡ al) in
    let Alive = raw (alive 𝓛 f.ended.signature y.0.0 y.0.1) in
    let framed₁ = framed 𝓤 𝓛.H 𝓜 𝓣 in
    qed 𝓛 ((Alive ⊛ ‵ (owns (types_at f.ended.signature.params y.0.0) a y.0.4)) ∷ (raw (fact 𝓤 Asked) ⊛ ‵ (room_for τ p) ⊛ ‵ (lent_token w τ p)) ∷ []) ∵
    move ! (1 ∷ []) $ split3 ! $ drop ! $ move ! (1 ∷ []) $ move ! (1 ∷ 0 ∷ []) $
    use2 𝓛 (‵ (lent_at p w)) (apply∗ 𝓤 (sem 𝓛 (room_for τ p)) (sem 𝓛 (lent_at p w))) $
    move ! (1 ∷ []) $ split ! $ move ! (1 ∷ []) $ fsplit ! $ move ! (1 ∷ []) $ drop ! $ fsplit ! $ drop ! $
    shr_dup ! O the_row_laws.shr_laws one r.ref_ptr.0 r.ref_ptr.1 κs.0 $
    -- [the two `&`; the tokens; the memory]
    let G = triple_of 𝓛 g.signature (g.spec 𝓛 𝓜.mem 𝓡.returns) in
    let x : G.Ghost = ((κs, y.0.1, y.0.2, (r, tt), (me ∷ [], tt)), tt) in
    let K = triple_of 𝓛 k.signature (k.spec 𝓛 𝓜.mem 𝓡.returns) in
    regoal ! (λ (us : List Val). prop (WpFn 𝓤 𝓛.H 𝓣.C 𝓣.Λ code.function us (W.post y))) (λ i. are.0.0 i ++ (are.1.0 i ++ (are.1.1.0.0 i ++ (are.1.1.1.0.0 i ++ [])))) refl $
    enter ! _ _ _ _ _ $ alloc_all ! (λ l. pass_all ! refl ((tt, tt), (is_place p, ((tt, record { fits = are.1.1.0.1 }), ((tt, record { fits = are.1.1.1.0.1 }), tt)))) $
    feq_i ! (List Val) (me ∷ []) (me ∷ []) refl $ fjoin ! $ nothing ! $ move ! (1 ∷ 0 ∷ []) $ fjoin ! $ move ! (2 ∷ 0 ∷ []) $ join ! $ nothing ! $ move ! (1 ∷ 0 ∷ []) $ join ! $ use1 𝓛 (raw (G.pre x)) (id⊢ 𝓤 _) $
    calls_at ! framed₁ G (sizes 𝓤 𝓛 𝓜 𝓡 (code.calls-lent_memory::OneBlock::size 𝓡.env wired)) x (and_then ! (get ! refl) (no_more !)) (λ v.
    use1 𝓛 (later (some (λ (m : ℕ). (Alive ⊛ ‵ (usize.own_val m (v ∷ []))) ⊛ some (λ (ls : Lasts g.ended κs x.0.3). ‵ (lasts g.ended κs x.0.3 ls) ⊛ raw (fact 𝓤 (m ≡ w)))))) (id⊢ 𝓤 (G.post x v)) $
    await ! tt $ pick ! (λ m. split ! $ move ! (1 ∷ []) $ pick ! (λ _. split ! $ drop ! $ heard ! (m ≡ w) (λ said. split ! $ move ! (1 ∷ []) $ fsplit ! $ feq_l ! (λ e. pure_l ! (flt m (2 ^ 64)) (λ below. let small : w < 2 ^ 64 = subst (λ (d : ℕ). d < 2 ^ 64) said below in
    lands_as ! (ap only e ∙ ap (vint w64) said) refl (tt, record { fits = small }) $
    sets ! (agg ! (and_then ! (get ! refl) (and_then ! (get ! refl) (no_more !)))) refl (is_word p w small) $
    let h : R.Denot = record { at = p; size = w } in
    let z : K.Ghost = ((κs, y.0.1, y.0.2, (r, (h, tt)), (me ∷ [], (word p w ∷ [], tt))), tt) in
    -- [the tokens; the `&`; the memory]
    move ! (2 ∷ []) $ use0 𝓛 (‵ (fields_at p w (word p w ∷ []))) (words 𝓛 p w small) $ fjoin ! $ nothing ! $ move ! (1 ∷ 0 ∷ []) $ fjoin ! $
    move ! (2 ∷ []) $ feq_i ! (List Val) (me ∷ []) (me ∷ []) refl $ fjoin ! $ fjoin ! $ move ! (1 ∷ 0 ∷ []) $ join ! $ nothing ! $ move ! (1 ∷ 0 ∷ []) $ join ! $ use1 𝓛 (raw (K.pre z)) (id⊢ 𝓤 _) $
    calls_at ! framed₁ K (puts 𝓤 𝓛 𝓜 𝓡 (code.calls-lent_memory::OneBlock::put 𝓡.env wired)) z (and_then ! (get ! refl) (and_then ! (get ! refl) (no_more !))) (λ u.
    use1 𝓛 (later (some (λ (t : Unit {0}). (Alive ⊛ ‵ (unit.own_val t (u ∷ []))) ⊛ some (λ (ls : Lasts k.ended κs z.0.3). ‵ (lasts k.ended κs z.0.3 ls) ⊛ ‵ ftrue)))) (id⊢ 𝓤 (K.post z u)) $
    await ! tt $ pick ! (λ t. split ! $ move ! (1 ∷ []) $ drop ! $ split ! $ move ! (1 ∷ []) $ feq_l ! (λ e₂.
    lands_as ! (ap only e₂) refl (tt, tt) $ sets ! (of_opd ! (unit_lit !)) refl (tt, tt) $ returns ! (look_at ! 0 refl) $ free_all ! refl $
    feq_i ! (List Val) (vunit ∷ []) (vunit ∷ []) refl $ nothing ! $ nothing ! $ nothing ! $ fjoin ! $ nothing ! $ fjoin ! $ nothing ! $ fjoin ! $ nothing ! $ fjoin ! $ move ! (3 ∷ 0 ∷ 2 ∷ 1 ∷ []) $
    by ! (leaves 𝓛 f.ended stayed c y vunit tt (tt, (tt, (tt, (tt, tt)))) (tt, (tt, (tt, (tt, tt))))))))))))))))
