-- The labels of a name, one after another.
use Rattle.std.proofs.Common.{◌≡◌, ◌↔◌, ℕ, ◌+◌, ◌<◌, Bool, true, false, not, IsTrue, List, [], ◌∷◌, length, take, drop, get_or, refl, sym, ap, subst, ◌∙◌, arith}
use Rattle.std.specs.Char.{is_ascii_digit}
use Rattle.std.specs.List.{list_all, position_or_len, slice_split}
use Rattle.std.proofs.lemmas.List.Elements.{All-from_get_or}
use Rattle.std.proofs.lemmas.List.Splits.{slice_split_none, slice_split_first, length-slice_split}
use Rattle.std.proofs.lemmas.List.Sums.{fails_before_first}
use Rattle.x509_hosts.specs.Names.{AreLabels, IsLabel, is_dot, labels}

pub last_label : (xs : List ℕ) → position_or_len is_dot xs ≡ length xs → labels xs ≡ xs ∷ []
last_label xs e = slice_split_none is_dot xs (All-from_get_or (λ b. is_dot b ≡ false) xs 0 (λ i l. fails_before_first is_dot xs i 0 (omega (arith, e, l))))

pub first_label : (xs : List ℕ) (at : ℕ) → position_or_len is_dot xs ≡ at → at < length xs → labels xs ≡ take at xs ∷ labels (drop (at + 1) xs)
first_label xs at e l = slice_split_first is_dot xs 0 (omega (arith, e, l)) ∙ ap (λ n. take n xs ∷ labels (drop (n + 1) xs)) e

behind_first : (label : List ℕ) (more : List (List ℕ)) → 0 < length more → AreLabels (label ∷ more) ↔ (IsLabel label × AreLabels more)
behind_first label [] some = absurd (omega (arith, some))
behind_first label (next ∷ more) some = (λ a. a, λ a. a)

-- a name that begins with a label is one exactly where what is behind it is
pub one_label : (xs : List ℕ) (at : ℕ) → position_or_len is_dot xs ≡ at → at < length xs → AreLabels (labels xs) ↔ (IsLabel (take at xs) × AreLabels (labels (drop (at + 1) xs)))
one_label xs at e l =
    let b = behind_first (take at xs) (labels (drop (at + 1) xs)) (omega (arith, length-slice_split is_dot (drop (at + 1) xs))) in
    subst (λ (x : List (List ℕ)). AreLabels x ↔ (IsLabel (take at xs) × AreLabels (labels (drop (at + 1) xs)))) (sym (first_label xs at e l)) b

pub false_is : IsTrue false → ⊥
false_is t = cc

not_true : (b : Bool) → IsTrue (not b) ↔ (IsTrue b → ⊥)
not_true true = (λ t e. false_is t, λ h. absurd (h refl))
not_true false = (λ t e. false_is e, λ h. refl)

-- a first label that is none
pub no_label : (name rest label : List ℕ) (at : ℕ) (r : Bool) → (AreLabels (labels name) ↔ AreLabels (labels rest)) → position_or_len is_dot rest ≡ at → at < length rest → label ≡ take at rest → (IsTrue r ↔ IsLabel label) → r ≡ false →
    (IsTrue false → AreLabels (labels name)) × (AreLabels (labels name) → IsTrue false)
no_label name rest label at r kept e l front is h = (λ t. absurd (false_is t), λ a. sym h ∙ is.1 (subst IsLabel (sym front) ((one_label rest at e l).0 (kept.0 a)).0))

-- a first label that is one
pub next_label : (name rest label behind : List ℕ) (at : ℕ) (r : Bool) → (AreLabels (labels name) ↔ AreLabels (labels rest)) → position_or_len is_dot rest ≡ at → at < length rest → label ≡ take at rest → behind ≡ drop (at + 1) rest → (IsTrue r ↔ IsLabel label) → r ≡ true →
    AreLabels (labels name) ↔ AreLabels (labels behind)
next_label name rest label behind at r kept e l front back is h =
    let o = one_label rest at e l in
    let P : List ℕ → Type 0 = λ x. AreLabels (labels x) in
    (λ a. subst P (sym back) (o.0 (kept.0 a)).1, λ a. kept.1 (o.1 (subst IsLabel front (is.0 h), subst P back a)))

-- the last label
pub ends_label : (name rest : List ℕ) (r n : Bool) → (AreLabels (labels name) ↔ AreLabels (labels rest)) → position_or_len is_dot rest ≡ length rest → (IsTrue r ↔ IsLabel rest) → r ≡ true → n ≡ list_all is_ascii_digit rest →
    (IsTrue (not n) → AreLabels (labels name)) × (AreLabels (labels name) → IsTrue (not n))
ends_label name rest r n kept e is h m =
    let P : List (List ℕ) → Type 0 = AreLabels in
    let last = last_label rest e in (
      λ t. kept.1 (subst P (sym last) (is.0 h, λ d. (not_true n).0 t (m ∙ d))),
      λ a. (not_true n).1 (λ d. (subst P last (kept.0 a)).1 (sym m ∙ d)),
    )

pub no_last : (name rest : List ℕ) (r : Bool) → (AreLabels (labels name) ↔ AreLabels (labels rest)) → position_or_len is_dot rest ≡ length rest → (IsTrue r ↔ IsLabel rest) → r ≡ false →
    (IsTrue r → AreLabels (labels name)) × (AreLabels (labels name) → IsTrue r)
no_last name rest r kept e is h =
    let P : List (List ℕ) → Type 0 = AreLabels in
    (λ t. absurd (false_is (sym h ∙ t)), λ a. is.1 (subst P (last_label rest e) (kept.0 a)).0)
