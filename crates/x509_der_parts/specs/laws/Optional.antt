-- A field that may be absent.
use Rattle.std.proofs.Common.{◌≡◌, ℕ, ◌≤◌, ◌*◌, Bool, ◌||◌, List, [], ◌∷◌, ◌++◌, length, refl, ap, sym, ◌∙◌, arith, Option, Some, None}
use Rattle.x509_der_parts.specs.MarkOrder.{Placing}
use Rattle.x509_der_parts.specs.facts.MarkOrder.{no_marks}
use Rattle.x509_der_parts.specs.Tally.{Tally, none}
use Rattle.x509_der_parts.specs.facts.Fields.{stands}
use Rattle.x509_der_parts.specs.Parts.{IsPart}
use Rattle.x509_der_parts.specs.Shape.{Shape, Lawful, IsStrict, Same, Follows, Begins}
use Rattle.x509_der_parts.specs.laws.Join.{follows_left, follows_right}
use Rattle.x509_der_parts.specs.Optional.{IfThere, Optional, OptionalAt, optional, optional_strict}

-- no spelling is empty
abbrev pub Full : {V : Type 0} → Shape V → Type 0
Full s = (v : _) (p : List ℕ) (y : Tally) → s.spelled v p y → 1 ≤ length p

-- what may not follow an absent field
pub no_start : (f : ℕ → Bool) (q r : List ℕ) → 1 ≤ length q → Begins f q → Follows f (q ++ r) → ⊥
no_start f [] r n b h = omega arith
no_start f (c ∷ q) r n b h = cc

module _ {V : Type 0} (s : Shape V) (l : Lawful s) (full : Full s) where
  optional_one : (v w : Option V) (p q r u : List ℕ) (y z : Tally) → Optional s v p y → Optional s w q z → p ++ r ≡ q ++ u → Follows (λ c. s.avoids c || s.starts c) r → Follows (λ c. s.avoids c || s.starts c) u → Same v w p q y z
  optional_one None None p q r u y z a b e f g = record { value = refl; bytes = a.0 ∙ sym b.0; tally = a.1 ∙ sym b.1 }
  optional_one None (Some w) p q r u y z a b e f g =
      let e2 : r ≡ q ++ u = ap (λ x. x ++ r) (sym a.0) ∙ e in
      absurd (no_start s.starts q u (full w q z b) (l.begins w q z b) (rw e2 at (follows_right s.avoids s.starts r f)))
  optional_one (Some v) None p q r u y z a b e f g =
      let e2 : u ≡ p ++ r = ap (λ x. x ++ u) (sym b.0) ∙ sym e in
      absurd (no_start s.starts p r (full v p y a) (l.begins v p y a) (rw e2 at (follows_right s.avoids s.starts u g)))
  optional_one (Some v) (Some w) p q r u y z a b e f g =
      let o = l.one v w p q r u y z a b e (follows_left s.avoids s.starts r f) (follows_left s.avoids s.starts u g) in
      record { value = ap Some o.value; bytes = o.bytes; tally = o.tally }

  optional_written : (v : Option V) → IfThere s.valid v → IfThere s.readable v → IsStrict (optional s) v
  unfolding none
  optional_written None d r = record { headers = 0; spelled = (refl, refl) }
  optional_written (Some v) d r = let w = l.written v d r in record { headers = w.headers; spelled = w.spelled }

  optional_clean : (v : Option V) (p : List ℕ) (y : Tally) → Optional s v p y → y.marks ≡ [] → p ≡ optional_strict s.strict v
  optional_clean None p y a e = a.0
  optional_clean (Some v) p y a e = l.clean v p y a e

  optional_read : (v : Option V) (p : List ℕ) (y : Tally) → Optional s v p y → IfThere s.readable v
  optional_read None p y a = tt
  optional_read (Some v) p y a = l.read v p y a

  optional_valid : (v : Option V) (p : List ℕ) (y : Tally) → Optional s v p y → IfThere s.valid v
  optional_valid None p y a = tt
  optional_valid (Some v) p y a = l.valid v p y a

  optional_begins : (v : Option V) (p : List ℕ) (y : Tally) → Optional s v p y → Begins s.starts p
  optional_begins None p y a = rw a.0 tt
  optional_begins (Some v) p y a = l.begins v p y a

  optional_cost : (v : Option V) (p : List ℕ) (y : Tally) → Optional s v p y → 2 * y.headers ≤ length p
  unfolding none
  optional_cost None p y a = rw (a.0, a.1) (omega arith)
  optional_cost (Some v) p y a = l.cost v p y a

  optional_few : (v : Option V) (p : List ℕ) (y : Tally) → Optional s v p y → length y.marks ≤ y.headers
  unfolding none
  optional_few None p y a = rw a.1 (omega arith)
  optional_few (Some v) p y a = l.few v p y a

  optional_places : (v : Option V) (p : List ℕ) (y : Tally) → Optional s v p y → Placing (length p) y.marks
  unfolding none
  optional_places None p y a = no_marks (length p) y.marks (ap (λ (x : Tally). x.marks) a.1)
  optional_places (Some v) p y a = l.places v p y a

  optional_parts : (v : Option V) (p : List ℕ) (y : Tally) → Optional s v p y → (n : ℕ) (string : List ℕ) (whole : Tally) → IsPart string whole n p y → OptionalAt s v n p string whole
  optional_parts None p y a n string whole i = a.0
  optional_parts (Some v) p y a n string whole i = stands s l v p y a n string whole i

  pub optional_lawful : Lawful (optional s)
  optional_lawful = record {
    one = optional_one;
    written = optional_written;
    clean = optional_clean;
    valid = optional_valid;
    read = optional_read;
    begins = optional_begins;
    cost = optional_cost;
    few = optional_few;
    places = optional_places;
    parts = optional_parts;
  }
