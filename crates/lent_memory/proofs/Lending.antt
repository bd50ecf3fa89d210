-- What lent memory looks like as machine values, and how room for a type is cut from its front. Assumes `Logic`.
use Rattle.std.proofs.Common.{zero, suc, ◌≡◌, ℕ, ◌+◌, ◌-◌, ◌/◌, ◌%◌, ◌^◌, ◌<◌, ◌≤◌, List, [], ◌∷◌, ◌++◌, Bool, true, false, ◌&&◌, refl, sym, ap, subst, ◌∙◌, arith, lit<, w64, T}
use Rattle.std.proofs.Math.Nat.{lt_irrefl}
use seplogic.Ra.Ura.{Ura}
use mir.Syntax.{Ty, Width, ty_int, ty_ptr, ty_array, w8, w16, w32, w128, ty_struct, tcons, tnil}
use mir.Val.{Val, vint, vstruct, vcons, vnil, of_list, bytes, has_ty, WT}
use base.Logic.{SProp, ent, sep, wand, emp, apply∗}
use base.Fml.{Fml}
use prog.Memory.{size, align}
use prog.Align.{Dv, align_w, align-bytes}
use types.Logic.{Logic, sem}
use types.Kit.{raw, ◌⊛◌, ◌$◌, ◌∵◌, !, qed, use1, use2, split, frame, assume, rewrite, done}
use denote.RattleType.{RattleType}
use denote.Builtin.{usize}
use denote.RawPtr.{Ptr, RawPtr, block_ptr, null_ptr, ptr_val, room_for}
use denote.RawPtr.Room.{room_cut, room_glue, past}
use denote.Shadow.{shadow, makes_shadow}
use denote.Struct.Struct.{Struct}
use Rattle.lent_memory.specs.Lending.{sixteens, lent_at}

-- the two fields, without the memory
abbrev pub bare : RattleType
bare = Struct (record { name = []; args = []; types = []; fields = RawPtr ∷ usize ∷ [] })

abbrev pub word : Ptr → ℕ → Val
word p n = vstruct (vcons (ptr_val p) (vcons (vint w64 n) vnil))

abbrev pub fields_at : Ptr → ℕ → List Val → Fml
fields_at p n vs = bare.own_val (p, (n, tt)) vs

pub word_is : (p : Ptr) (n : ℕ) (vs : List Val) → shadow (fields_at p n vs) → (vs ≡ word p n ∷ []) × (n < 2 ^ 64)
word_is p n vs s = (s.1.0 ∙ ap (λ (us : List Val). vstruct (of_list us) ∷ []) (λ i. s.1.1.0 i ++ (s.1.1.1.0.0 i ++ [])), s.1.1.1.0.1)

pub words : {M : Type 1} {𝓤 : Ura M} (𝓛 : Logic 𝓤) (p : Ptr) (n : ℕ) → n < 2 ^ 64 → ent 𝓤 (emp 𝓤) (sem 𝓛 (fields_at p n (word p n ∷ [])))
words 𝓛 p n small = makes_shadow 𝓛 (fields_at p n (word p n ∷ [])) (λ _. (tt, (tt, ((tt, tt), tt)))) ((ptr_val p ∷ [], (vint w64 n ∷ [], tt)), (refl, (refl, ((refl, small), tt))))

pub is_place : (p : Ptr) → T (has_ty ty_ptr (ptr_val p)) × WT (ptr_val p)
is_place (block_ptr b o) = (tt, tt)
is_place null_ptr = (tt, record { fits = lit< tt })

kept : (t : Bool) → T t → T (t && true)
kept true h = tt
kept false h = absurd h

pub is_word : (p : Ptr) (n : ℕ) → n < 2 ^ 64 → T (has_ty (ty_struct [] (tcons ty_ptr (tcons (ty_int w64) tnil))) (word p n)) × WT (word p n)
is_word p n small = (kept _ (is_place p).0, ((is_place p).1, (record { fits = small }, tt)))

pub is_measured : (p : Ptr) (n : ℕ) → n < 2 ^ 64
    → T (has_ty (ty_struct [] (tcons (ty_int w64) (tcons (ty_struct [] (tcons ty_ptr (tcons (ty_int w64) tnil))) tnil))) (vstruct (vcons (vint w64 n) (vcons (word p n) vnil)))) × WT (vstruct (vcons (vint w64 n) (vcons (word p n) vnil)))
is_measured p n small = (kept _ (is_word p n small).0, (record { fits = small }, ((is_word p n small).1, tt)))

sixteen : (w : Width) → Dv (bytes w) 16
sixteen w8 = tt
sixteen w16 = tt
sixteen w32 = tt
sixteen w64 = tt
sixteen w128 = tt

-- each type's alignment divides 16
slim : (τ : Ty) → Dv (align τ) 16
slim τ = subst (λ (k : ℕ). Dv k 16) (sym (align-bytes τ)) (sixteen (align_w τ))

-- the front of lent memory is room for a type of whole sixteens, and comes back
pub fronts : {M : Type 1} {𝓤 : Ura M} (𝓛 : Logic 𝓤) (τ : Ty) (b o n : ℕ) → size τ % 16 ≡ 0 → size τ ≤ n
    → ent 𝓤 (𝓛.H.room (sixteens n) b o) (sep 𝓤 (𝓛.H.room τ b o) (wand 𝓤 (𝓛.H.room τ b o) (𝓛.H.room (sixteens n) b o)))
fronts {𝓤 = 𝓤} 𝓛 τ b o n even fits =
    let U : Ty = ty_int w128 in
    let m : ℕ = size τ in
    let j : ℕ = m / 16 in
    let k : ℕ = (n - m) / 16 in
    let Room : ℕ → ℕ → SProp 𝓤 = λ i d. 𝓛.H.room (ty_array U i) b d in
    let parts : n / 16 ≡ j + k = omega arith in
    let Mine : SProp 𝓤 = 𝓛.H.room τ b o in
    qed 𝓛 (raw (Room (n / 16) o) ∷ []) ∵ rewrite ! 0 (λ (i : ℕ). raw (Room i o)) parts refl $
    use1 𝓛 (raw (Room j o) ⊛ raw (Room k (past U j o))) (room_cut 𝓛 U j k b o) $ split ! $
    use1 𝓛 (raw Mine ⊛ raw (wand 𝓤 Mine (Room j o))) (𝓛.laws.room_as (sixteens m) τ b o (omega arith) (slim τ)) $ split ! $ frame ! $ assume ! (raw Mine) $
    use2 𝓛 (raw (Room j o)) (apply∗ 𝓤 Mine (Room j o)) $ use2 𝓛 (raw (Room (j + k) o)) (room_glue 𝓛 U j k b o) $
    rewrite ! 0 (λ (i : ℕ). raw (Room i o)) (sym parts) refl $ done !

-- what is lent is room, where there is any
pub lent_is : (p : Ptr) (n : ℕ) → 0 < n → lent_at p n ≡ room_for (sixteens n) p
lent_is p zero some = absurd (lt_irrefl zero some)
lent_is p (suc n) some = refl
