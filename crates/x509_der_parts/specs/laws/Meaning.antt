-- Types whose values are what those of a base shape mean, some with one or two marks over the whole.
use Rattle.std.proofs.Common.{◌≡◌, ℕ, ◌+◌, ◌≤◌, List, [], ◌∷◌, length, Some, ap, arith}
use Rattle.std.proofs.lemmas.List.{length-map}
use Rattle.x509_der_parts.specs.declared.deviation.Deviation.{Deviation}
use Rattle.x509_der_parts.specs.Element.{header}
use Rattle.x509_der_parts.specs.Tally.{Tally, moved}
use Rattle.x509_der_parts.specs.facts.Tally.{inside_headers, inside_marks, joined_cost, joined_few}
use Rattle.x509_der_parts.specs.Join.{Joined}
use Rattle.x509_der_parts.specs.MarkOrder.{Deep, Ascending}
use Rattle.x509_der_parts.specs.Fields.{Inner}
use Rattle.x509_der_parts.specs.Shape.{Shape, Lawful, IsElement}
use Rattle.x509_der_parts.specs.Tagged.{IsTagged, tagged}
use Rattle.x509_der_parts.specs.laws.Tagged.{tagged_lawful, tagged_deep, tagged_spare, tagged_inner}
use Rattle.x509_der_parts.specs.Choice.{choice}
use Rattle.x509_der_parts.specs.laws.Choice.{choice_deep, choice_spare, choice_inner}
use Rattle.x509_der_parts.specs.laws.View.{viewed_lawful, viewed_element}
use Rattle.x509_der_parts.specs.View.{IsSeen, Meaning, seen}

-- what a meaning keeps
pub record IsMeaning {B V : Type 0} (m : Meaning B V) (s : Shape B) : Type 0 where
  pub written : (v : V) → m.valid v → m.readable v → (m.of (m.back v) ≡ Some (v, [])) × s.valid (m.back v) × s.readable (m.back v)
  pub stays : (v : V) → m.valid v → s.valid (m.back v)
  pub clean : (b : B) (v : V) → m.of b ≡ Some (v, []) → s.valid b → s.readable b → b ≡ m.back v
  pub kept : (b : B) (v : V) (ks : List Deviation) → m.of b ≡ Some (v, ks) → s.valid b → m.valid v
  pub read : (b : B) (v : V) (ks : List Deviation) → m.of b ≡ Some (v, ks) → s.readable b → m.readable v

-- what a mark over the whole asks of the base: those inside begin behind the first byte, a header is to spare, and the parts stand behind the first byte
pub record Markable {B : Type 0} (s : Shape B) : Type 0 where
  pub deep : (b : B) (p : List ℕ) (y : Tally) → s.spelled b p y → (1 ≤ length p) × Deep y.marks
  pub spare : (b : B) (p : List ℕ) (y : Tally) → s.spelled b p y → 1 + length y.marks ≤ y.headers
  pub inner : Inner s

-- an element bears marks, and so does a choice of elements
pub tagged_markable : {B : Type 0} (t : ℕ) (s : Shape B) → Lawful s → Markable (tagged t s)
tagged_markable t s l = record { deep = tagged_deep t s; spare = tagged_spare t s l; inner = tagged_inner t s l }

pub choice_markable : {B C : Type 0} (a : Shape B) (b : Shape C) → Markable a → Markable b → Markable (choice a b)
choice_markable a b f g = record { deep = choice_deep a b f.deep g.deep; spare = choice_spare a b f.spare g.spare; inner = choice_inner a b f.inner g.inner }

-- headers to spare for more marks: one of an element, and those in a field
pub tagged_more : {B : Type 0} (t : ℕ) (s : Shape B) (b : B) (p : List ℕ) (y : Tally) (a : IsTagged t s b p y) (k : ℕ) → k + length a.part.marks ≤ a.part.headers → (1 + k) + length y.marks ≤ y.headers
tagged_more t s b p y a k h =
    omega (arith, h, ap (λ (x : Tally). length x.marks) a.tally, ap (λ (x : Tally). x.headers) a.tally, inside_headers (header a.content) a.part, ap length (inside_marks (header a.content) a.part), length-map a.part.marks (moved (header a.content)))

pub first_more : {V W : Type 0} (a : Shape V) (b : Shape W) → Lawful b → (v : V) (w : W) (p : List ℕ) (y : Tally) (i : Joined (a.spelled v) (b.spelled w) p y) (k : ℕ) → k + length i.first.marks ≤ i.first.headers → k + length y.marks ≤ y.headers
first_more a b l v w p y i k h = omega (arith, h, joined_cost _ _ _ _ i.tally, joined_few _ _ _ _ i.tally, l.few w i.back i.second i.aft)

pub second_more : {V W : Type 0} (a : Shape V) (b : Shape W) → Lawful a → (v : V) (w : W) (p : List ℕ) (y : Tally) (i : Joined (a.spelled v) (b.spelled w) p y) (k : ℕ) → k + length i.second.marks ≤ i.second.headers → k + length y.marks ≤ y.headers
second_more a b l v w p y i k h = omega (arith, h, joined_cost _ _ _ _ i.tally, joined_few _ _ _ _ i.tally, l.few v i.front i.first i.fore)

ascending_one : (ks : List Deviation) → length ks ≤ 1 → Ascending ks
ascending_one [] h = tt
ascending_one (k ∷ []) h = (tt, tt)
ascending_one (k ∷ l ∷ ks) h = absurd (omega (arith, h))

module _ {B V : Type 0} (m : Meaning B V) (s : Shape B) (w : Markable s) (i : IsMeaning m s) where
  -- with one mark at most
  pub seen_one : ((b : B) (v : V) (ks : List Deviation) → m.of b ≡ Some (v, ks) → length ks ≤ 1) → IsSeen m s
  seen_one one = record {
    written = i.written;
    clean = i.clean;
    kept = i.kept;
    read = i.read;
    few = λ b v ks p y e a. omega (arith, one b v ks e, w.spare b p y a);
    deep = w.deep;
    inner = w.inner;
    ascending = λ b v ks e. ascending_one ks (one b v ks e);
  }

  -- with two: headers are to spare for both, and they ascend
  pub seen_more : ((b : B) (v : V) (ks : List Deviation) (p : List ℕ) (y : Tally) → m.of b ≡ Some (v, ks) → s.spelled b p y → length ks + length y.marks ≤ y.headers) → ((b : B) (v : V) (ks : List Deviation) → m.of b ≡ Some (v, ks) → Ascending ks) → IsSeen m s
  seen_more few ascending = record { written = i.written; clean = i.clean; kept = i.kept; read = i.read; few = few; deep = w.deep; inner = w.inner; ascending = ascending }

-- a SEQUENCE of fields, with one mark at most, keeps what a view asks
pub sequence_keeps : {B V : Type 0} (m : Meaning B V) (s : Shape B) → Lawful s → IsMeaning m (tagged 48 s) → ((b : B) (v : V) (ks : List Deviation) → m.of b ≡ Some (v, ks) → length ks ≤ 1) → Lawful (tagged 48 s) × IsSeen m (tagged 48 s)
sequence_keeps m s l i one = (tagged_lawful 48 s l, seen_one m (tagged 48 s) (tagged_markable 48 s l) i one)

pub seen_lawful : {B V : Type 0} (m : Meaning B V) (s : Shape B) → Lawful s × IsSeen m s → Lawful (seen m s)
seen_lawful m s k = viewed_lawful m.of m.back m.valid m.readable s k.0 k.1

pub seen_element : {B V : Type 0} (m : Meaning B V) (s : Shape B) → IsElement s → IsMeaning m s → IsElement (seen m s)
seen_element m s e i = viewed_element m.of m.back m.valid m.readable s e i.stays
