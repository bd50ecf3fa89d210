-- Reading a field that may be absent.
use Rattle.std.proofs.Common.{◌≡◌, ℕ, ◌≤◌, Bool, true, false, ◌==◌, List, [], ◌∷◌, ◌++◌, length, refl, sym, ap, ◌∙◌, arith, rules, Some, None}
use Rattle.std.proofs.lemmas.Bool.Decides.{nat_tests}
use Rattle.x509_der_parts.specs.declared.errors.ReadError.{ReadError}
use Rattle.x509_der_parts.specs.Tally.{none}
use Rattle.x509_der_parts.specs.Shape.{Shape, Lawful, Follows, Begins}
use Rattle.x509_der_parts.specs.laws.Join.{follows_left, follows_right}
use Rattle.x509_der_parts.specs.Optional.{optional}
use Rattle.x509_der_parts.specs.laws.Optional.{Full, no_start}
use Rattle.x509_der_parts.specs.Reading.{Cursor, Ready, Accepts, Refuses}
use Rattle.x509_der_parts.specs.reads.Cursor.{moved_none}

-- what the byte that comes next says of what follows
pub follows_cons : (f : ℕ → Bool) (b : ℕ) (r t : List ℕ) → t ≡ b ∷ r → f b ≡ false → Follows f t
follows_cons f b r t e h = rw e h

pub follows_nil : (f : ℕ → Bool) (t : List ℕ) → t ≡ [] → Follows f t
follows_nil f t e = rw e tt

pub empty_is : (r : List ℕ) → (length r == 0) ≡ true → r ≡ []
empty_is [] e = refl
empty_is (b ∷ r) e = absurd (search (rules, nat_tests))

pub not_empty_is : (r : List ℕ) → (length r == 0) ≡ false → r ≡ [] → ⊥
not_empty_is [] e h = search (rules, nat_tests)
not_empty_is (b ∷ r) e h = cc

-- what begins with a byte of a set doesn't stand where none of the set does
pub absent_front : (f : ℕ → Bool) (p q r : List ℕ) → r ≡ p ++ q → 1 ≤ length p → Begins f p → Follows f r → ⊥
absent_front f p q r e n b h = no_start f p q n b (rw e at h)

begins_follows : (f : ℕ → Bool) (b : ℕ) (r : List ℕ) → f b ≡ true → Follows f (b ∷ r) → ⊥
begins_follows f b r e h = cc

module _ {V : Type 0} (s : Shape V) (l : Lawful s) (full : Full s) where
  pub optional_absent : (old : Cursor) → Ready old → Follows s.starts old.rest → Accepts (optional s) old old None
  optional_absent old r f = record {
    bytes = [];
    tally = none;
    spelled = (refl, refl);
    moved = moved_none old;
    ready = r;
    min_headers = λ n z. omega (arith, z);
    only = elim [ None ↦ λ p q z b e g. record { value = refl; bytes = b.0; tally = b.1 } | Some w ↦ λ p q z b e g. absurd (absent_front s.starts p q old.rest e (full w p z b) (l.begins w p z b) f) ];
  }

  pub optional_there : (old new : Cursor) (v : V) (b : ℕ) (r : List ℕ) → old.rest ≡ b ∷ r → s.starts b ≡ true → Accepts s old new v → Accepts (optional s) old new (Some v)
  optional_there old new v b r n t a = record {
    bytes = a.bytes;
    tally = a.tally;
    spelled = a.spelled;
    moved = a.moved;
    ready = a.ready;
    min_headers = λ n z. omega (arith, z);
    only = elim [
      | None ↦ λ p q z i e g.
          let e2 : q ≡ b ∷ r = sym (e ∙ ap (λ x. x ++ q) i.0) ∙ n in
          absurd (begins_follows s.starts b r t (rw e2 at (follows_right s.avoids s.starts q g)))
      | Some w ↦ λ p q z i e g. let o = a.only w p q z i e (follows_left s.avoids s.starts q g) in record { value = ap Some o.value; bytes = o.bytes; tally = o.tally }
    ];
  }

  pub optional_refuses : (old new : Cursor) (e : ReadError) (b : ℕ) (r : List ℕ) → old.rest ≡ b ∷ r → s.starts b ≡ true → Refuses s old new e → Refuses (optional s) old new e
  optional_refuses old new e b r n t a = record {
    spares = a.spares;
    grows = a.grows;
    bound = a.bound;
    min_headers = λ m n z. omega (arith, z, a.grows);
    forward = a.forward;
    within = a.within;
    outside = a.outside;
    none = elim [
      | None ↦ λ p q z i h g.
          let e2 : q ≡ b ∷ r = sym (h ∙ ap (λ x. x ++ q) i.0) ∙ n in
          absurd (begins_follows s.starts b r t (rw e2 at (follows_right s.avoids s.starts q g)))
      | Some w ↦ λ p q z i h g. let o = a.none w p q z i h (follows_left s.avoids s.starts q g) in record { memory = o.memory; marked = o.marked }
    ];
  }
