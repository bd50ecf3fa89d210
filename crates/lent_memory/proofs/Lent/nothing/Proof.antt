-- `nothing` owns nothing. Assumes `Logic`.
use Rattle.std.proofs.Common.{◌≡◌, [], ◌∷◌, refl, lit<}
use base.Logic.{emp}
use contract.Monad.{fact, fact_i}
use contract.Running.{tables}
use types.Kit.{‵, raw, ◌⊛◌, ◌$◌, ◌∵◌, !, qed, by, move, keep, use0, split, fjoin}
use types.Part.{agg}
use types.Run.{lit, no_more, and_then, returns, enter}
use types.ByLocal.{alloc_all, pass_all, free_all, look_at, sets}
use denote.RattleType.{owns}
use denote.RawPtr.{null_ptr}
use denote.Signature.{types_at}
use denote.Steps.{nothing}
use denote.Triple.Entry.{alive}
use denote.Triple.Walked.{Stays, walk_of}
use base.Fml.{ftrue}
use Rattle.std.proofs.raw_atomic.Walks.{proved_at, leaves}
use Rattle.lent_memory.proofs.Lending.{word, fields_at, words, is_word}
use Rattle.lent_memory.specs.contracts.Lent.{the_row as R}
use Rattle.lent_memory.specs.contracts.Lent.nothing as f
use Rattle.lent_memory.proofs.Lent.nothing.Statement.{statement}
use Rattle.lent_memory.proofs.Lent.nothing.Code as code

abbrev stayed : Stays f.ended.signature.params f.ended.kept
stayed = tt

pub nothing_spec : {M : Type 1} → statement M
nothing_spec 𝓤 𝓛 𝓜 𝓡 wired =
    let c = f.clauses 𝓛 𝓜.mem 𝓡.returns in let W = walk_of 𝓛 f.ended stayed c in let 𝓣 = tables 𝓤 𝓛.H 𝓜 𝓡 𝓡.env in
    proved_at 𝓛 f.ended stayed c 𝓜 𝓡 tt f.Key.name code.function (code.unfolded 𝓤 𝓛.H 𝓜 𝓡 wired) (λ y are.
    let h : R.Denot = record { at = null_ptr; size = 0 } in
    qed 𝓛 ((raw (alive 𝓛 f.ended.signature y.0.0 y.0.1) ⊛ ‵ (owns (types_at f.ended.signature.params y.0.0) y.0.3 y.0.4)) ∷ ‵ ftrue ∷ []) ∵
    split ! $ keep ! (0 ∷ []) $ enter ! _ _ _ _ _ $ alloc_all ! (λ l. pass_all ! refl tt $
    sets ! (agg ! (and_then ! (lit ! tt) (and_then ! (lit ! tt) (no_more !)))) refl (is_word null_ptr 0 (lit< tt)) $
    returns ! (look_at ! 0 refl) $ free_all ! refl $
    nothing ! $ use0 𝓛 (‵ (fields_at null_ptr 0 (word null_ptr 0 ∷ []))) (words 𝓛 null_ptr 0 (lit< tt)) $ fjoin ! $
    use0 𝓛 (raw (fact 𝓤 (0 ≡ 0))) (fact_i 𝓤 (0 ≡ 0) (emp 𝓤) refl) $ nothing ! $ move ! (3 ∷ 0 ∷ 2 ∷ 1 ∷ []) $
    by ! (leaves 𝓛 f.ended stayed c y (word null_ptr 0) h tt tt)))
