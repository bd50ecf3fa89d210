-- The two cases of what `take` gives. Assumes `Logic`.
use Rattle.std.proofs.Common.{◌≡◌, ℕ, ◌%◌, ◌^◌, ◌<◌, ◌≤◌, List, [], ◌∷◌, ◌++◌, IfSome, None, Some, ap, ◌∙◌}
use seplogic.Ra.Ura.{Ura}
use mir.Val.{Val, vcons, vnil, of_list}
use types.Logic.{Logic}
use types.Kit.{Item, Goal, Seq, ‵, ◌$◌, move, drop, fsplit, fpick, feq_l}
use types.Match.{live}
use denote.RattleType.{RattleType}
use denote.Shadow.{pure_l}
use denote.Steps.{only}
use Rattle.core.specs.contracts.option.Option as option
use Rattle.lent_memory.specs.Lending.{lent_at}
use Rattle.lent_memory.specs.contracts.Lent.{the_row as R}
use Rattle.lent_memory.proofs.Lending.{word, fields_at, word_is}

abbrev pub Offer : RattleType
Offer = option.the_row R

-- the clause of `take`
abbrev pub Offers : ℕ → ℕ → Offer.Denot → Type 0
Offers w n x = IfSome x (λ l. (l.size ≡ w) × (n ≤ l.size) × (n % 16 ≡ 0) × (0 < n))

module _ {M : Type 1} {𝓤 : Ura M} {𝓛 : Logic 𝓤} {K : Type 0} {Γ : List (Item 𝓤)} {G : Goal 𝓤 𝓛.H} where
  pub offered : K → (w n : ℕ) (x : Offer.Denot) (v : Val) → Offers w n x
      → ((l : R.Denot) → (l.size ≡ w) × (n ≤ l.size) × (n % 16 ≡ 0) × (0 < n) → l.size < 2 ^ 64 → v ≡ live 1 (vcons (word l.at l.size) vnil) → Seq K 𝓛 (‵ (lent_at l.at l.size) ∷ Γ) G)
      → (v ≡ live 0 vnil → Seq K 𝓛 Γ G) → Seq K 𝓛 (‵ (Offer.own_val x (v ∷ [])) ∷ Γ) G
  offered t w n None v said some none =
      fpick t (λ us. fsplit t $ feq_l t (λ e. fpick t (λ vss. fsplit t $ feq_l t (λ e'. drop t $ none (ap only e ∙ ap (λ (ws : List Val). live 0 (of_list ws)) e')))))
  offered t w n (Some l) v said some none =
      fpick t (λ us. fsplit t $ feq_l t (λ e. fpick t (λ vss. fsplit t $ feq_l t (λ e'. fsplit t $ move t (1 ∷ []) $ drop t $ fsplit t $ pure_l t (fields_at l.at l.size vss.0) (λ s.
      let known = word_is l.at l.size vss.0 s in
      some l said known.1 (ap only e ∙ ap (λ (ws : List Val). live 1 (of_list ws)) (e' ∙ ap (λ (ws : List Val). ws ++ []) known.0)))))))
