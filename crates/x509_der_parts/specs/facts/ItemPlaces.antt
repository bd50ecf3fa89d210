-- Where an item of a list stands.
use Rattle.std.proofs.Common.{◌≡◌, ℕ, ◌+◌, false, List, [], ◌∷◌, ◌++◌, length, refl, ap, subst, sym, ◌∙◌, arith, append_assoc, length-append}
use Rattle.std.proofs.lemmas.List.{append_cancel_left}
use Rattle.x509_der_parts.specs.facts.Lists.{behind}
use Rattle.x509_der_parts.specs.Tally.{Tally}
use Rattle.x509_der_parts.specs.Shape.{Shape, Lawful}
use Rattle.x509_der_parts.specs.Fields.{Stands}
use Rattle.x509_der_parts.specs.Items.{Items, ItemsAt, ItemAt}
use Rattle.x509_der_parts.specs.laws.RawElement.{follows_free}

pub item_at : {V : Type 0} (s : Shape V) (done more : List V) (v : V) (n : ℕ) (slice string : List ℕ) (whole : Tally) → ItemsAt s string whole (done ++ v ∷ more) n slice → ItemAt s done v more n slice string whole
item_at s [] more v n slice string whole b =
    let z : n ≡ n + 0 = omega arith in
    let P : ℕ → Type 0 = λ m. Stands s v m b.front string whole in
    let Q : ℕ → Type 0 = λ m. ItemsAt s string whole more (m + length b.front) b.back in
    record { before = []; item = b.front; after = b.back; bytes = b.bytes; earlier = refl; here = subst P z b.first; later = subst Q z b.second }
item_at s (d ∷ done) more v n slice string whole b =
    let k = item_at s done more v (n + length b.front) b.back string whole b.second in
    let z : (n + length b.front) + length k.before ≡ n + length (b.front ++ k.before) = omega (arith, length-append b.front k.before) in
    let P : ℕ → Type 0 = λ m. Stands s v m k.item string whole in
    let Q : ℕ → Type 0 = λ m. ItemsAt s string whole more (m + length k.item) k.after in
    record {
      before = b.front ++ k.before;
      item = k.item;
      after = k.after;
      bytes = b.bytes ∙ ap (λ x. b.front ++ x) k.bytes ∙ sym (append_assoc b.front k.before (k.item ++ k.after));
      earlier = record { front = b.front; back = k.before; bytes = refl; first = b.first; second = k.earlier };
      here = subst P z k.here;
      later = subst Q z k.later;
    }

module _ {V : Type 0} (s : Shape V) (l : Lawful s) (free : (c : ℕ) → s.avoids c ≡ false) where
  -- the place is the one behind the spellings of the items before it, and the slice is the item's own: no equal item elsewhere stands for it
  pub item_exactly : (done more : List V) (v : V) (before item after slice : List ℕ) (y z : Tally) (n : ℕ) (string : List ℕ) (whole : Tally) → Items s done before y → s.spelled v item z → slice ≡ before ++ (item ++ after) → ItemsAt s string whole (done ++ v ∷ more) n slice → Stands s v (n + length before) item string whole
  item_exactly [] more v before item after slice y z n string whole a i e b =
      let e1 : item ++ after ≡ b.front ++ b.back = sym (ap (λ x. x ++ (item ++ after)) a.0) ∙ sym e ∙ b.bytes in
      let o = (l.one v v item b.front after b.back z b.first.field.tally i b.first.field.spelled e1 (follows_free s.avoids free after) (follows_free s.avoids free b.back)).bytes in
      let k : n ≡ n + length before = omega (arith, ap length a.0) in
      let P : List ℕ → Type 0 = λ x. Stands s v n x string whole in
      let Q : ℕ → Type 0 = λ m. Stands s v m item string whole in
      subst Q k (subst P (sym o) b.first)
  item_exactly (d ∷ done) more v before item after slice y z n string whole a i e b =
      let rest = item ++ after in
      let e1 : a.front ++ (a.back ++ rest) ≡ b.front ++ b.back = sym (behind before a.front a.back rest a.bytes) ∙ sym e ∙ b.bytes in
      let o = (l.one d d a.front b.front (a.back ++ rest) b.back a.first b.first.field.tally a.fore b.first.field.spelled e1 (follows_free s.avoids free (a.back ++ rest)) (follows_free s.avoids free b.back)).bytes in
      let e2 : b.back ≡ a.back ++ rest = sym (append_cancel_left a.front _ _ (e1 ∙ ap (λ x. x ++ b.back) (sym o))) in
      let ih = item_exactly done more v a.back item after b.back a.second z (n + length b.front) string whole a.aft i e2 b.second in
      let k : (n + length b.front) + length a.back ≡ n + length before = omega (arith, ap length o, ap length a.bytes, length-append a.front a.back) in
      let Q : ℕ → Type 0 = λ m. Stands s v m item string whole in
      subst Q k ih
