-- Reading one of two shapes by the first byte.
use Rattle.std.proofs.Common.{◌≡◌, ℕ, Bool, true, refl, inl, inr, List, [], ◌∷◌, ◌++◌, ap, arith}
use Rattle.x509_der_parts.specs.declared.choice.Choice.TheVariants.{First, Second}
use Rattle.x509_der_parts.specs.declared.errors.ReadError.{ReadError}
use Rattle.x509_der_parts.specs.declared.errors.ReadError.TheVariants.{OutOfMemory}
use Rattle.x509_der_parts.specs.Tally.{Tally}
use Rattle.x509_der_parts.specs.Shape.{Shape, Lawful, IsElement, Follows}
use Rattle.x509_der_parts.specs.laws.Join.{follows_left, follows_right}
use Rattle.x509_der_parts.specs.laws.NotEmpty.{full}
use Rattle.x509_der_parts.specs.Choice.{either, choice, sides, Begun, Disjoint}
use Rattle.x509_der_parts.specs.laws.Choice.{same_sides, begun_more, not_both_begun}
use Rattle.x509_der_parts.specs.reads.Structure.{structure_accepts, structure_refuses}
use Rattle.x509_der_parts.specs.Reading.{Cursor, Accepts, Refuses}

pub begun_cons : (f : ℕ → Bool) (b : ℕ) (r t : List ℕ) → t ≡ b ∷ r → f b ≡ true → Begun f t
begun_cons f b r t e h = rw e h

pub not_begun : (f : ℕ → Bool) (r : List ℕ) → Follows f r → Begun f r → ⊥
not_begun f [] h b = b
not_begun f (c ∷ r) h b = cc

module _ {V W : Type 0} (a : Shape V) (b : Shape W) (la : Lawful a) (lb : Lawful b) (ea : IsElement a) (eb : IsElement b) (apart : Disjoint a b) where
  begun_left : (v : V) (p q r : List ℕ) (y : Tally) → a.spelled v p y → r ≡ p ++ q → Begun a.starts r
  begun_left v p q r y i e = begun_more a.starts p q r e (full a ea v p y i) (la.begins v p y i)

  begun_right : (w : W) (p q r : List ℕ) (y : Tally) → b.spelled w p y → r ≡ p ++ q → Begun b.starts r
  begun_right w p q r y i e = begun_more b.starts p q r e (full b eb w p y i) (lb.begins w p y i)

  left : (old new : Cursor) (v : V) → Begun a.starts old.rest → Accepts a old new v → Accepts (either a b) old new (inl v)
  left old new v h i = record {
    bytes = i.bytes;
    tally = i.tally;
    spelled = i.spelled;
    moved = i.moved;
    ready = i.ready;
    min_headers = λ n. elim [ inl z ↦ omega (arith, z) | inr (inl k) ↦ i.min_headers n k.1 | inr (inr k) ↦ absurd (not_both_begun a.starts b.starts old.rest apart h k.0) ];
    only = elim [
      | inl w ↦ λ p q z j e f. let o = i.only w p q z j e (follows_left a.avoids b.avoids q f) in record { value = ap inl o.value; bytes = o.bytes; tally = o.tally }
      | inr w ↦ λ p q z j e f. absurd (not_both_begun a.starts b.starts old.rest apart h (begun_right w p q old.rest z j e))
    ];
  }

  right : (old new : Cursor) (w : W) → Begun b.starts old.rest → Accepts b old new w → Accepts (either a b) old new (inr w)
  right old new w h i = record {
    bytes = i.bytes;
    tally = i.tally;
    spelled = i.spelled;
    moved = i.moved;
    ready = i.ready;
    min_headers = λ n. elim [ inl z ↦ omega (arith, z) | inr (inl k) ↦ absurd (not_both_begun a.starts b.starts old.rest apart k.0 h) | inr (inr k) ↦ i.min_headers n k.1 ];
    only = elim [
      | inl v ↦ λ p q z j e f. absurd (not_both_begun a.starts b.starts old.rest apart (begun_left v p q old.rest z j e) h)
      | inr x ↦ λ p q z j e f. let o = i.only x p q z j e (follows_right a.avoids b.avoids q f) in record { value = ap inr o.value; bytes = o.bytes; tally = o.tally }
    ];
  }

  left_refuses : (old new : Cursor) (e : ReadError) → Begun a.starts old.rest → Refuses a old new e → Refuses (either a b) old new e
  left_refuses old new e h i = record {
    grows = i.grows;
    bound = i.bound;
    spares = λ f. i.spares f.0;
    min_headers = λ m n. elim [ inl z ↦ omega (arith, z, i.grows) | inr (inl k) ↦ i.min_headers m n k.1 | inr (inr k) ↦ absurd (not_both_begun a.starts b.starts old.rest apart h k.0) ];
    forward = i.forward;
    within = i.within;
    outside = λ f. i.outside (follows_left a.starts b.starts old.rest f);
    none = elim [
      | inl w ↦ λ p q z j g f. let o = i.none w p q z j g (follows_left a.avoids b.avoids q f) in record { memory = o.memory; marked = λ t. o.marked t.0 }
      | inr w ↦ λ p q z j g f. absurd (not_both_begun a.starts b.starts old.rest apart h (begun_right w p q old.rest z j g))
    ];
  }

  right_refuses : (old new : Cursor) (e : ReadError) → Begun b.starts old.rest → Refuses b old new e → Refuses (either a b) old new e
  right_refuses old new e h i = record {
    grows = i.grows;
    bound = i.bound;
    spares = λ f. i.spares f.1;
    min_headers = λ m n. elim [ inl z ↦ omega (arith, z, i.grows) | inr (inl k) ↦ absurd (not_both_begun a.starts b.starts old.rest apart k.0 h) | inr (inr k) ↦ i.min_headers m n k.1 ];
    forward = i.forward;
    within = i.within;
    outside = λ f. i.outside (follows_right a.starts b.starts old.rest f);
    none = elim [
      | inl v ↦ λ p q z j g f. absurd (not_both_begun a.starts b.starts old.rest apart (begun_left v p q old.rest z j g) h)
      | inr w ↦ λ p q z j g f. let o = i.none w p q z j g (follows_right a.avoids b.avoids q f) in record { memory = o.memory; marked = λ t. o.marked t.1 }
    ];
  }

  neither : (old : Cursor) (e : ReadError) → (e ≡ OutOfMemory → ⊥) → Follows a.starts old.rest → Follows b.starts old.rest → Refuses (either a b) old old e
  neither old e nm h k = record {
    grows = omega arith;
    bound = omega arith;
    spares = λ f p. nm;
    min_headers = λ m n. elim [ inl z ↦ omega (arith, z) | inr (inl i) ↦ absurd (not_begun a.starts old.rest h i.0) | inr (inr i) ↦ absurd (not_begun b.starts old.rest k i.0) ];
    forward = omega arith;
    within = omega arith;
    outside = λ f. refl;
    none = elim [
      | inl v ↦ λ p q z j g f. absurd (not_begun a.starts old.rest h (begun_left v p q old.rest z j g))
      | inr w ↦ λ p q z j g f. absurd (not_begun b.starts old.rest k (begun_right w p q old.rest z j g))
    ];
  }

  pub first_accepts : (old new : Cursor) (v : V) → Begun a.starts old.rest → Accepts a old new v → Accepts (choice a b) old new (First v)
  first_accepts old new v h i = structure_accepts sides (either a b) same_sides old new (First v) (left old new v h i)

  pub second_accepts : (old new : Cursor) (w : W) → Begun b.starts old.rest → Accepts b old new w → Accepts (choice a b) old new (Second w)
  second_accepts old new w h i = structure_accepts sides (either a b) same_sides old new (Second w) (right old new w h i)

  pub first_refuses : (old new : Cursor) (e : ReadError) → Begun a.starts old.rest → Refuses a old new e → Refuses (choice a b) old new e
  first_refuses old new e h i = structure_refuses sides (either a b) same_sides old new e (left_refuses old new e h i)

  pub second_refuses : (old new : Cursor) (e : ReadError) → Begun b.starts old.rest → Refuses b old new e → Refuses (choice a b) old new e
  second_refuses old new e h i = structure_refuses sides (either a b) same_sides old new e (right_refuses old new e h i)

  -- the first byte begins neither
  pub neither_refuses : (old : Cursor) (e : ReadError) → (e ≡ OutOfMemory → ⊥) → Follows a.starts old.rest → Follows b.starts old.rest → Refuses (choice a b) old old e
  neither_refuses old e nm h k = structure_refuses sides (either a b) same_sides old old e (neither old e nm h k)
