-- Values that are named by the arcs of object identifiers.
use Rattle.std.proofs.Common.{◌≡◌, ℕ, suc, ◌+◌, ◌<◌, Bool, true, false, cond, List, [], ◌∷◌, drop, length, get_or, drop-cons, Option, Some, refl, ap, ◌∙◌, arith}
use Rattle.std.specs.Prelude.{IsTrue}
use Rattle.std.specs.Cmp.Lexicographic.{bytes_decides}
use Rattle.x509_der.specs.ObjectIdentifier.{is_arcs}
use Rattle.x509_der.specs.Named.{named}

same_value : {V : Type 0} (v w : V) → ◌≡◌ {A = Option V} (Some v) (Some w) → v ≡ w
same_value v w e = cc

next_place : {V : Type 0} (k : ℕ) (vs : List V) → drop (suc k) vs ≡ drop (k + 1) vs
next_place k vs = let e : suc k ≡ k + 1 = omega arith in ap (λ n. drop n vs) e

passed_by : {V : Type 0} (t : Bool) (v : V) (o : Option V) → (t ≡ true → IsTrue false) → cond t (Some v) o ≡ o
passed_by true v o h = let e : IsTrue false = h refl in cc
passed_by false v o h = refl

module _ {V : Type 0} (of : V → List ℕ) where
  named_step : (t : Bool) (v w : V) (vs : List V) (arcs : List ℕ) → is_arcs arcs (of v) ≡ t → (named of vs arcs ≡ Some w → arcs ≡ of w) → cond t (Some v) (named of vs arcs) ≡ Some w → arcs ≡ of w
  named_step true v w vs arcs e h k = (bytes_decides arcs (of v)).0 e ∙ ap of (same_value v w k)
  named_step false v w vs arcs e h k = h k

  -- a value that is found is named by the arcs
  pub named_is : (vs : List V) (arcs : List ℕ) (w : V) → named of vs arcs ≡ Some w → arcs ≡ of w
  named_is [] arcs w e = cc
  named_is (v ∷ vs) arcs w e = named_step (is_arcs arcs (of v)) v w vs arcs refl (named_is vs arcs w) e

  -- a value that the arcs don't name is passed by
  pub named_next : (vs : List V) (k : ℕ) (d : V) (arcs : List ℕ) → k < length vs → (arcs ≡ of (get_or vs k d) → IsTrue false) → named of (drop k vs) arcs ≡ named of (drop (k + 1) vs) arcs
  named_next vs k d arcs l h =
      ap (λ r. named of r arcs) (drop-cons vs k d l)
      ∙ passed_by (is_arcs arcs (of (get_or vs k d))) (get_or vs k d) (named of (drop (suc k) vs) arcs) (λ e. h ((bytes_decides arcs (of (get_or vs k d))).0 e))
      ∙ ap (λ r. named of r arcs) (next_place k vs)
