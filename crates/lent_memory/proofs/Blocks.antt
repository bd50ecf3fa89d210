-- The block that is handed out, and what `allocate` answers as machine values. Assumes `Logic`.
use Rattle.std.proofs.Common.{zero, suc, ◌≡◌, ℕ, ◌-◌, ◌%◌, ◌^◌, ◌<◌, ◌≤◌, [], ◌∷◌, Bool, true, false, ◌&&◌, cond, Ok, Err, refl, sym, subst, arith, T}
use seplogic.Ra.Ura.{Ura}
use mir.Syntax.{Ty}
use mir.Val.{Val, vstruct, vcons, vnil}
use base.Logic.{ent, emp, never_e}
use prog.Memory.{size, capped}
use lib.Dec.{ltb}
use types.Logic.{Logic, sem}
use types.Match.{live}
use denote.RattleType.{RattleType}
use denote.Builtin.{RawPtr}
use denote.RawPtr.{Ptr, block_ptr, null_ptr, ptr_val}
use denote.Shadow.{makes_shadow}
use Rattle.std.specs.Prelude.{alloc_error}
use Rattle.core.specs.Allocator.{owned_block}
use Rattle.core.specs.contracts.result.Result as result
use Rattle.core.specs.contracts.alloc.AllocError as alloc_error_type
use Rattle.lent_memory.specs.Lending.{lent_at, lent_token}
use Rattle.lent_memory.proofs.Lending.{fronts}

pub also : (t : Bool) → T t → T (t && true)
also true h = tt
also false h = absurd h

uncapped : (t : Bool) (n m : ℕ) → cond t n (2 ^ 64 - 1) ≡ m → m % 16 ≡ 0 → n ≡ m
uncapped true n m e even = e
uncapped false n m e even = absurd (let odd : (2 ^ 64 - 1) % 16 ≡ 0 = subst (λ (k : ℕ). k % 16 ≡ 0) (sym e) even in omega (arith, odd))

-- a size that is a multiple of 16 isn't the one at which sizes are capped
pub is_size : (n m : ℕ) → capped n ≡ m → m % 16 ≡ 0 → n ≡ m
is_size n m e even = uncapped (ltb n (2 ^ 64)) n m e even

-- the block, with the right to give it back
pub handed : {M : Type 1} {𝓤 : Ura M} (𝓛 : Logic 𝓤) (τ : Ty) (p : Ptr) (w m : ℕ) → size τ ≡ m → m % 16 ≡ 0 → 0 < m → m ≤ w
    → ent 𝓤 (sem 𝓛 (lent_at p w)) (sem 𝓛 (owned_block (lent_token w) τ p))
handed 𝓛 τ p zero m is even some fits = absurd (omega arith)
handed 𝓛 τ (block_ptr b o) (suc w) m is even some fits = fronts 𝓛 τ b o (suc w) (subst (λ (k : ℕ). k % 16 ≡ 0) (sym is) even) (omega arith)
handed {𝓤 = 𝓤} 𝓛 τ null_ptr (suc w) m is even some fits = never_e 𝓤 _

abbrev pub Answer : RattleType
Answer = result.the_row RawPtr alloc_error_type.the_row

-- the place, or the error, which has no fields
abbrev pub placed : Ptr → Val
placed p = live 0 (vcons (ptr_val p) vnil)

abbrev pub refused : Val
refused = live 1 (vcons (vstruct vnil) vnil)

pub answers_place : {M : Type 1} {𝓤 : Ura M} (𝓛 : Logic 𝓤) (p : Ptr) → ent 𝓤 (emp 𝓤) (sem 𝓛 (Answer.own_val (Ok p) (placed p ∷ [])))
answers_place 𝓛 p = makes_shadow 𝓛 (Answer.own_val (Ok p) (placed p ∷ [])) (λ us. (tt, λ vss. (tt, (tt, tt)))) (ptr_val p ∷ [], (refl, ((ptr_val p ∷ [], tt), (refl, (refl, tt)))))

pub answers_refused : {M : Type 1} {𝓤 : Ura M} (𝓛 : Logic 𝓤) → ent 𝓤 (emp 𝓤) (sem 𝓛 (Answer.own_val (Err alloc_error) (refused ∷ [])))
answers_refused 𝓛 = makes_shadow 𝓛 (Answer.own_val (Err alloc_error) (refused ∷ [])) (λ us. (tt, λ vss. (tt, ((λ _. (tt, tt)), tt)))) (vstruct vnil ∷ [], (refl, ((vstruct vnil ∷ [], tt), (refl, ((tt, (refl, tt)), tt)))))
