-- Lines that are put one behind another.
use Rattle.std.proofs.Common.{◌≡◌, ◌==◌, true, false, true≢false, ℕ, zero, suc, ◌<◌, ◌≤◌, List, [], ◌∷◌, ◌++◌, length, take, drop, ⊎_elim, refl, sym, ap, ◌∙◌, arith, append_assoc, append-nil, length-drop}
use Rattle.std.specs.Prelude.{min}
use Rattle.std.proofs.lemmas.Bool.{cases_lt}
use Rattle.std.proofs.lemmas.Bool.Decides.{nat_tests}
use Rattle.std.proofs.lemmas.List.{drop_all, take_all}
use Rattle.x509_pem_writer.specs.Blocks.{lines_from, lines_of}

-- more fuel changes nothing
enough : (f g : ℕ) (s : List ℕ) → length s ≤ f → length s ≤ g → lines_from f s ≡ lines_from g s
unfolding lines_from
enough zero zero s h k = refl
enough zero (suc g) [] h k = refl
enough (suc f) zero [] h k = refl
enough zero (suc g) (b ∷ r) h k = absurd (omega (arith, h))
enough (suc f) zero (b ∷ r) h k = absurd (omega (arith, k))
enough (suc f) (suc g) [] h k = refl
enough (suc f) (suc g) (b ∷ r) h k =
    let n : length (drop 64 (b ∷ r)) ≤ length r = omega (arith, length-drop 64 (b ∷ r)) in
    ap (λ x. take 64 (b ∷ r) ++ 10 ∷ x) (enough f g (drop 64 (b ∷ r)) (omega (arith, n, h)) (omega (arith, n, k)))

-- the first line, and the others
pub lines_more : (s : List ℕ) → 0 < length s → lines_of s ≡ take 64 s ++ 10 ∷ lines_of (drop 64 s)
unfolding lines_from
lines_more [] h = absurd (omega (arith, h))
lines_more (b ∷ r) h =
    let n : length (drop 64 (b ∷ r)) ≤ length r = omega (arith, length-drop 64 (b ∷ r)) in
    ap (λ x. take 64 (b ∷ r) ++ 10 ∷ x) (enough (length r) (length (drop 64 (b ∷ r))) (drop 64 (b ∷ r)) n (omega arith))

pub lines_none : lines_of [] ≡ []
unfolding lines_from
lines_none = refl

-- a line that is as long as it may be
pub front_line : (s : List ℕ) (n : ℕ) → n ≡ min (length s) 64 → (take n s ≡ take 64 s) × (drop n s ≡ drop 64 s)
front_line s n e =
    ⊎_elim
    (λ l. let m : n ≡ 64 = omega (arith, e, l) in (ap (λ k. take k s) m, ap (λ k. drop k s) m))
    (λ l. let m : n ≡ length s = omega (arith, e, l) in
    (ap (λ k. take k s) m ∙ take_all (length s) s (omega arith) ∙ sym (take_all 64 s l), ap (λ k. drop k s) m ∙ drop_all (length s) s (omega arith) ∙ sym (drop_all 64 s l)))
    (cases_lt 64 (length s))

-- one more line
pub line_put : (t line u rest more w : List ℕ) (n : ℕ) → 0 < length rest → n ≡ min (length rest) 64 → line ≡ take n rest → more ≡ drop n rest → u ≡ (t ++ line) ++ 10 ∷ [] → t ++ lines_of rest ≡ w → u ++ lines_of more ≡ w
line_put t line u rest more w n some size front back is h =
    let k = front_line rest n size in
    let all : lines_of rest ≡ line ++ 10 ∷ lines_of more = lines_more rest some ∙ ap (λ x. x ++ 10 ∷ lines_of (drop 64 rest)) (sym (front ∙ k.0)) ∙ ap (λ x. line ++ 10 ∷ lines_of x) (sym (back ∙ k.1)) in
    ap (λ x. x ++ lines_of more) is ∙ append_assoc (t ++ line) (10 ∷ []) (lines_of more) ∙ append_assoc t line (10 ∷ lines_of more) ∙ ap (λ x. t ++ x) (sym all) ∙ h

-- none is left
pub lines_end : (t rest w : List ℕ) → rest ≡ [] → t ++ lines_of rest ≡ w → t ≡ w
lines_end t rest w e h = sym (append-nil t) ∙ ap (λ x. t ++ x) (sym (ap lines_of e ∙ lines_none)) ∙ h

pub not_empty : (s : List ℕ) → (length s == 0) ≡ false → 0 < length s
not_empty [] e = absurd (true≢false e)
not_empty (b ∷ r) e = omega arith

pub is_nothing : (s : List ℕ) → (length s == 0) ≡ true → s ≡ []
is_nothing [] e = refl
is_nothing (b ∷ r) e = grind (arith, nat_tests)
