-- The test of arcs that stand strictly under others.
use Rattle.std.proofs.Common.{◌≡◌, ◌↔◌, ℕ, ◌≤◌, Bool, true, false, ◌&&◌, eqb, eq-eqb, List, [], ◌∷◌, ◌++◌, length, refl, sym, ap, ◌∙◌, arith}
use Rattle.std.specs.Prelude.{IsTrue, nat_lt}
use Rattle.std.proofs.lemmas.Bool.{eqb-true}
use Rattle.std.proofs.lemmas.Bool.Decides.{nat_tests}
use Rattle.x509_der.specs.ObjectIdentifier.{IsUnder, is_strictly_under}

both_true : (a b : Bool) → (a && b) ≡ true → (a ≡ true) × (b ≡ true)
both_true true true e = (refl, refl)
both_true true false e = cc
both_true false b e = cc

and_true : (a b : Bool) → a ≡ true → b ≡ true → (a && b) ≡ true
and_true a b e f = rw (e, f) refl

and_false : (a b : Bool) → b ≡ false → (a && b) ≡ false
and_false true b e = e
and_false false b e = refl

under_more : (a b : ℕ) (front arcs : List ℕ) → a ≡ b → IsUnder front arcs → IsUnder (a ∷ front) (b ∷ arcs)
under_more a b front arcs e u = record { more = u.more; arcs_are = ap (λ x. b ∷ x) u.arcs_are ∙ ap (λ x. x ∷ (front ++ u.more)) (sym e); some = u.some }

under_less : (a b : ℕ) (front arcs : List ℕ) → IsUnder (a ∷ front) (b ∷ arcs) → (a ≡ b) × IsUnder front arcs
under_less a b front arcs u = let e : b ∷ arcs ≡ a ∷ (front ++ u.more) = u.arcs_are in (cc, record { more = u.more; arcs_are = cc; some = u.some })

-- it is true exactly where they do
pub strictly_under : (front arcs : List ℕ) → IsTrue (is_strictly_under front arcs) ↔ IsUnder front arcs
strictly_under [] [] = (λ e. cc, λ u. absurd (u.some (sym u.arcs_are)))
strictly_under [] (b ∷ arcs) = (λ e. record { more = b ∷ arcs; arcs_are = refl; some = λ z. cc }, λ u. refl)
strictly_under (a ∷ front) [] = (λ e. cc, λ u. let e : [] ≡ a ∷ (front ++ u.more) = u.arcs_are in cc)
strictly_under (a ∷ front) (b ∷ arcs) =
    let i = strictly_under front arcs in (
      λ e. let p = both_true (eqb a b) (is_strictly_under front arcs) e in under_more a b front arcs (eqb-true a b p.0) (i.0 p.1),
      λ u. let q = under_less a b front arcs u in and_true (eqb a b) (is_strictly_under front arcs) (eq-eqb a b q.0) (i.1 q.1),
    )

-- no more arcs are under none
short_under : (front arcs : List ℕ) → length arcs ≤ length front → false ≡ is_strictly_under front arcs
short_under [] [] h = refl
short_under [] (b ∷ arcs) h = absurd (omega arith)
short_under (a ∷ front) [] h = refl
short_under (a ∷ front) (b ∷ arcs) h = sym (and_false (eqb a b) (is_strictly_under front arcs) (sym (short_under front arcs (omega arith))))

short_length : (n m : ℕ) → m ≤ n → nat_lt n m ≡ false
short_length n m h = grind (arith, nat_tests)

pub short_test : (front arcs : List ℕ) → length arcs ≤ length front → nat_lt (length front) (length arcs) ≡ is_strictly_under front arcs
short_test front arcs h = short_length (length front) (length arcs) h ∙ short_under front arcs h

-- tests that are true where the same is so
pub same_test : {P : Type 0} (a b : Bool) → IsTrue a ↔ P → IsTrue b ↔ P → a ≡ b
same_test true true f g = refl
same_test true false f g = let e : false ≡ true = g.1 (f.0 refl) in cc
same_test false true f g = let e : false ≡ true = f.1 (g.0 refl) in cc
same_test false false f g = refl
