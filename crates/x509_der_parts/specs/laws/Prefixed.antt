-- A fixed byte in front of a shape.
use Rattle.std.proofs.Common.{◌≡◌, ℕ, List, [], ◌∷◌, ◌++◌, length, refl, ap, sym, ◌∙◌, arith}
use Rattle.x509_der_parts.specs.declared.errors.ReadError.{ReadError}
use Rattle.x509_der_parts.specs.declared.errors.ReadError.TheVariants.{OutOfMemory}
use Rattle.x509_der_parts.specs.Tally.{none}
use Rattle.x509_der_parts.specs.facts.Tally.{none_marks, none_headers}
use Rattle.x509_der_parts.specs.facts.MarkOrder.{no_marks}
use Rattle.x509_der_parts.specs.Shape.{Shape, Lawful}
use Rattle.x509_der_parts.specs.laws.PrimitiveContent.{begins_any}
use Rattle.x509_der_parts.specs.laws.Join.{join_lawful}
use Rattle.x509_der_parts.specs.reads.Join.{join_accepts, join_first, join_second}
use Rattle.x509_der_parts.specs.Reading.{Cursor, Ready, Moved, TakesByte, Accepts, Refuses}
use Rattle.x509_der_parts.specs.reads.Cursor.{placed_none, ready_after}
use Rattle.x509_der_parts.specs.Prefixed.{byte_alone, prefixed}

none_is : none ≡ record { marks = []; headers = 0 }
unfolding none
none_is = refl

pub byte_lawful : (b : ℕ) → Lawful (byte_alone b)
byte_lawful b = record {
  one = λ v w p q r t y z i j e f g. record { value = refl; bytes = i.0 ∙ sym j.0; tally = i.1 ∙ sym j.1 };
  written = λ v d r. record { headers = 0; spelled = (refl, sym none_is) };
  clean = λ v p y i e. i.0;
  valid = λ v p y i. tt;
  read = λ v p y i. tt;
  begins = λ v p y i. begins_any p;
  cost = λ v p y i. omega (arith, none_headers y i.1);
  few = λ v p y i. omega (arith, ap length (none_marks y i.1));
  places = λ v p y i. no_marks (length p) y.marks (none_marks y i.1);
  parts = λ v p y i n string whole h. i.0;
}

pub prefixed_lawful : {V : Type 0} (b : ℕ) (s : Shape V) → Lawful s → Lawful (prefixed b s)
prefixed_lawful b s l = join_lawful (byte_alone b) s (byte_lawful b) l (λ c h. refl) (λ v. tt) (λ v. v) (λ x y e f. f)

byte_moved : (old new : Cursor) (b : ℕ) → TakesByte old new b → Moved old new (b ∷ []) none
unfolding none
byte_moved old new b t = record {
  rest = t.rest;
  at = omega (arith, t.at);
  headers = omega (arith, t.headers);
  counts = t.counts;
  places = t.places ∙ sym (placed_none old.at old.places);
}

byte_accepts : (b : ℕ) (old new : Cursor) → Ready old → TakesByte old new b → Accepts (byte_alone b) old new tt
byte_accepts b old new r t =
    let m = byte_moved old new b t in
    record {
      bytes = b ∷ [];
      tally = none;
      spelled = (refl, refl);
      moved = m;
      ready = ready_after old new (b ∷ []) none r m (omega (arith, none_headers none refl)) (omega (arith, ap length (none_marks none refl)));
      min_headers = λ n z. omega (arith, z);
      only = λ w p q z i e f. record { value = refl; bytes = i.0; tally = i.1 };
    }

byte_refuses : (b : ℕ) (old new : Cursor) (e : ReadError) → (e ≡ OutOfMemory → ⊥) → new.headers ≡ old.headers → new.at ≡ old.at → ((q : List ℕ) → old.rest ≡ b ∷ q → ⊥) → Refuses (byte_alone b) old new e
byte_refuses b old new e m h at n = record {
  spares = λ f p. m;
  grows = omega (arith, h);
  bound = omega (arith, h);
  min_headers = λ x k z. omega (arith, z, h);
  forward = omega (arith, at);
  within = omega (arith, at);
  outside = λ f. at;
  none = λ w p q z i g f. absurd (n q (g ∙ ap (λ y. y ++ q) i.0));
}

module _ {V : Type 0} (b : ℕ) (s : Shape V) (l : Lawful s) where
  pub prefixed_accepts : (old mid new : Cursor) (v : V) → Ready old → TakesByte old mid b → Accepts s mid new v → Accepts (prefixed b s) old new v
  prefixed_accepts old mid new v r t a = join_accepts (λ v. tt) (λ v. v) (λ x y e f. f) (byte_alone b) s (byte_lawful b) l (λ c h. refl) old mid new v (byte_accepts b old mid r t) a

  -- the byte doesn't stand there
  pub prefixed_none : (old new : Cursor) (e : ReadError) → (e ≡ OutOfMemory → ⊥) → new.headers ≡ old.headers → new.at ≡ old.at → ((q : List ℕ) → old.rest ≡ b ∷ q → ⊥) → Refuses (prefixed b s) old new e
  prefixed_none old new e m h at n = join_first (λ v. tt) (λ v. v) (λ x y e f. f) (byte_alone b) s (byte_lawful b) l (λ c h. refl) old new e (byte_refuses b old new e m h at n)

  -- what follows it is refused
  pub prefixed_refuses : (old mid new : Cursor) (e : ReadError) → Ready old → TakesByte old mid b → Refuses s mid new e → Refuses (prefixed b s) old new e
  prefixed_refuses old mid new e r t a = join_second (λ v. tt) (λ v. v) (λ x y e f. f) (byte_alone b) s (byte_lawful b) l (λ c h. refl) old mid new tt e (byte_accepts b old mid r t) a

pub not_empty_byte : (r : List ℕ) (b : ℕ) → r ≡ [] → (q : List ℕ) → r ≡ b ∷ q → ⊥
not_empty_byte r b e q f = let h : [] ≡ b ∷ q = sym e ∙ f in cc

pub other_byte : (r : List ℕ) (a b : ℕ) (t : List ℕ) → r ≡ a ∷ t → (a ≡ b → ⊥) → (q : List ℕ) → r ≡ b ∷ q → ⊥
other_byte r a b t e n q f = let h : a ∷ t ≡ b ∷ q = sym e ∙ f in n (cc)
