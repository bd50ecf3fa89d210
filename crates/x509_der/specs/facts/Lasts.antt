-- Facts about the last field under a tag, and about tags that ascend.
use Rattle.std.proofs.Common.{◌≡◌, ◌↔◌, ℕ, ◌+◌, ◌<◌, ◌≤◌, ◌&&◌, Bool, true, false, nat_le, List, [], ◌∷◌, ◌++◌, Option, Some, None, refl, ap, sym, ◌∙◌, arith}
use Rattle.std.proofs.lemmas.Bool.Decides.{nat_tests}
use Rattle.std.specs.List.{AllByRecursion}
use Rattle.x509_der.specs.Optional.{IfThere}
use Rattle.x509_der.specs.Lasts.{later, last, ascends_from, ascends, NeighboursAscend}

pub later_none : {V : Type 0} (a : Option V) → later a None ≡ a
later_none (Some v) = refl
later_none None = refl

later_later : {V : Type 0} (a b c : Option V) → later (later a b) c ≡ later a (later b c)
later_later (Some v) b c = refl
later_later None b c = refl

-- one field more behind others
pub last_push : {H V : Type 0} (under : H → Option V) (hs : List H) (h : H) → last under (hs ++ h ∷ []) ≡ later (under h) (last under hs)
last_push under [] h = sym (later_none (under h))
last_push under (g ∷ hs) h = ap (λ o. later o (under g)) (last_push under hs h) ∙ later_later (under h) (last under hs) (under g)

-- none has the tag
pub last_absent : {H V : Type 0} (under : H → Option V) (hs : List H) → AllByRecursion (λ g. under g ≡ None) hs → last under hs ≡ None
last_absent under [] d = refl
last_absent under (h ∷ hs) d = rw (last_absent under hs d.1, d.0) refl

-- one has it, and none behind it
pub last_there : {H V : Type 0} (under : H → Option V) (before after : List H) (h : H) (v : V) → under h ≡ Some v → AllByRecursion (λ g. under g ≡ None) after → last under (before ++ h ∷ after) ≡ Some v
last_there under [] after h v e d = rw (last_absent under after d, e) refl
last_there under (g ∷ before) after h v e d = ap (λ o. later o (under g)) (last_there under before after h v e d)

kept_later : {V : Type 0} (P : V → Type 0) (a b : Option V) → IfThere P a → IfThere P b → IfThere P (later a b)
kept_later P (Some v) b h i = h
kept_later P None b h i = i

-- what holds of each field holds of the last one
pub kept_last : {H V : Type 0} (Q : H → Type 0) (P : V → Type 0) (under : H → Option V) → ((h : H) → Q h → IfThere P (under h)) → (hs : List H) → AllByRecursion Q hs → IfThere P (last under hs)
kept_last Q P under f [] d = tt
kept_last Q P under f (h ∷ hs) d = kept_later P (last under hs) (under h) (kept_last Q P under f hs d.1) (f h d.0)

-- the numbers ascend exactly where each of two neighbours is below the one behind it
both_true : (x y : Bool) → (x && y) ≡ true → (x ≡ true) × (y ≡ true)
both_true true y e = (refl, e)
both_true false y e = cc

are_true : (x y : Bool) → x ≡ true → y ≡ true → (x && y) ≡ true
are_true x y e f = rw (e, f) refl

below : (n m : ℕ) → nat_le (n + 1) m ≡ true → n < m
below n m e = grind (arith, nat_tests)

at_least : (n m : ℕ) → n ≤ m → nat_le n m ≡ true
at_least n m h = grind (arith, nat_tests)

module _ {H : Type 0} (number : H → ℕ) where
  neighbours_at : (n : ℕ) (before after : List H) (a b : H) → ascends_from number n (before ++ a ∷ b ∷ after) ≡ true → number a < number b
  neighbours_at n [] after a b e =
      let rest = (both_true (nat_le n (number a)) _ e).1 in
      below (number a) (number b) (both_true (nat_le (number a + 1) (number b)) _ rest).0
  neighbours_at n (h ∷ before) after a b e = neighbours_at (number h + 1) before after a b (both_true (nat_le n (number h)) _ e).1

  ascending_from : (n : ℕ) (h : H) (hs : List H) → n ≤ number h → NeighboursAscend number (h ∷ hs) → ascends_from number n (h ∷ hs) ≡ true
  ascending_from n h [] k d = are_true (nat_le n (number h)) true (at_least n (number h) k) refl
  ascending_from n h (g ∷ hs) k d =
      let less = d [] hs h g refl in
      are_true (nat_le n (number h)) _ (at_least n (number h) k) (ascending_from (number h + 1) g hs (omega (arith, less)) (λ before after a b e. d (h ∷ before) after a b (ap (λ r. h ∷ r) e)))

  ascending : (hs : List H) → NeighboursAscend number hs → ascends number hs ≡ true
  ascending [] d = refl
  ascending (h ∷ hs) d = ascending_from 0 h hs (omega arith) d

  pub neighbours : (hs : List H) → (ascends number hs ≡ true) ↔ NeighboursAscend number hs
  neighbours hs = (λ e before after a b f. neighbours_at 0 before after a b (ap (ascends number) (sym f) ∙ e), ascending hs)
