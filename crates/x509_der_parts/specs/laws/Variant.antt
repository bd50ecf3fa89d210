-- One kind of values among several: a value of the kind has a payload, and is spelled as that; and no kind at all.
use Rattle.std.proofs.Common.{◌≡◌, ℕ, Bool, false, List, [], length, refl, ap, sym, ◌∙◌, arith}
use Rattle.x509_der_parts.specs.declared.errors.ReadError.{ReadError}
use Rattle.x509_der_parts.specs.declared.errors.ReadError.TheVariants.{OutOfMemory}
use Rattle.x509_der_parts.specs.Tally.{none}
use Rattle.x509_der_parts.specs.facts.Tally.{none_marks, none_headers}
use Rattle.x509_der_parts.specs.facts.MarkOrder.{no_marks}
use Rattle.x509_der_parts.specs.facts.Fields.{stands}
use Rattle.x509_der_parts.specs.Shape.{Shape, Lawful, Begins}
use Rattle.x509_der_parts.specs.Reading.{Cursor, Ready, Accepts, Refuses}
use Rattle.x509_der_parts.specs.reads.Cursor.{moved_none}
use Rattle.x509_der_parts.specs.Variant.{bare, variant, no_variant}

-- what is written of a value of the kind is its payload's strict spelling, and it is a value of its type exactly where the payload is one
pub record IsVariant {P V : Type 0} (make : P → V) (of : V → List ℕ) (Ok : V → Type 0) (s : Shape P) : Type 0 where
  pub strict : (u : P) → of (make u) ≡ s.strict u
  pub valid : (u : P) → s.valid u → Ok (make u)
  pub payload : (u : P) → Ok (make u) → s.valid u

module _ {P V : Type 0} (make : P → V) (of : V → List ℕ) (Ok : V → Type 0) (s : Shape P) (l : Lawful s) (h : IsVariant make of Ok s) where
  pub variant_lawful : Lawful (variant make of Ok s)
  variant_lawful = record {
    one = λ v w p q r t y z a b e f g.
        let o = l.one a.payload b.payload p q r t y z a.spelled b.spelled e f g in
        record { value = a.is ∙ ap make o.value ∙ sym b.is; bytes = o.bytes; tally = o.tally };
    written = λ v d r.
        let u = r.payload in
        let e : of v ≡ s.strict u = ap of r.is ∙ h.strict u in
        let k = l.written u (h.payload u (rw r.is at d)) r.readable in
        record { headers = k.headers; spelled = record { payload = u; is = r.is; spelled = rw e k.spelled } };
    clean = λ v p y a e. l.clean a.payload p y a.spelled e ∙ sym (ap of a.is ∙ h.strict a.payload);
    valid = λ v p y a. rw a.is (h.valid a.payload (l.valid a.payload p y a.spelled));
    read = λ v p y a. record { payload = a.payload; is = a.is; readable = l.read a.payload p y a.spelled };
    begins = λ v p y a. l.begins a.payload p y a.spelled;
    cost = λ v p y a. l.cost a.payload p y a.spelled;
    few = λ v p y a. l.few a.payload p y a.spelled;
    places = λ v p y a. l.places a.payload p y a.spelled;
    parts = λ v p y a n string whole i. record { payload = a.payload; is = a.is; inner = stands s l a.payload p y a.spelled n string whole i };
  }

module _ {P V : Type 0} (make : P → V) (of : V → List ℕ) (Ok : V → Type 0) (s : Shape P) where
  pub variant_accepts : (old new : Cursor) (u : P) (v : V) → v ≡ make u → Accepts s old new u → Accepts (variant make of Ok s) old new v
  variant_accepts old new u v e a = record {
    bytes = a.bytes;
    tally = a.tally;
    spelled = record { payload = u; is = e; spelled = a.spelled };
    moved = a.moved;
    ready = a.ready;
    min_headers = a.min_headers;
    only = λ w p q z b g f. let o = a.only b.payload p q z b.spelled g f in record { value = b.is ∙ ap make o.value ∙ sym e; bytes = o.bytes; tally = o.tally };
  }

  pub variant_refuses : (old new : Cursor) (e : ReadError) → Refuses s old new e → Refuses (variant make of Ok s) old new e
  variant_refuses old new e a = record {
    spares = a.spares;
    grows = a.grows;
    bound = a.bound;
    min_headers = a.min_headers;
    forward = a.forward;
    within = a.within;
    outside = a.outside;
    none = λ w p q z b g f. let o = a.none b.payload p q z b.spelled g f in record { memory = o.memory; marked = o.marked };
  }

module _ {V : Type 0} (of : V → List ℕ) (Ok : V → Type 0) where
  pub no_variant_lawful : Lawful (no_variant of Ok)
  no_variant_lawful = record {
    one = λ v w p q r t y z a b e f g. absurd a;
    written = λ v d r. absurd r;
    clean = λ v p y a e. absurd a;
    valid = λ v p y a. absurd a;
    read = λ v p y a. absurd a;
    begins = λ v p y a. absurd a;
    cost = λ v p y a. absurd a;
    few = λ v p y a. absurd a;
    places = λ v p y a. absurd a;
    parts = λ v p y a n string whole i. absurd a;
  }

  -- so it is refused with nothing read, and never for memory
  pub no_variant_refuses : (old : Cursor) (e : ReadError) → (e ≡ OutOfMemory → ⊥) → Refuses (no_variant of Ok) old old e
  no_variant_refuses old e m = record { spares = λ f p. m; grows = omega arith; bound = omega arith; min_headers = λ x n z. omega (arith, z); none = λ w p q z b g f. absurd b; forward = omega arith; within = omega arith; outside = λ f. refl }

none_is : none ≡ record { marks = []; headers = 0 }
unfolding none
none_is = refl

empty_begins : (f : ℕ → Bool) (p : List ℕ) → p ≡ [] → Begins f p
empty_begins f p e = rw e tt

pub bare_lawful : Lawful bare
bare_lawful = record {
  one = λ v w p q r t y z a b e f g. record { value = refl; bytes = a.0 ∙ sym b.0; tally = a.1 ∙ sym b.1 };
  written = λ v d r. record { headers = 0; spelled = (refl, sym none_is) };
  clean = λ v p y a e. a.0;
  valid = λ v p y a. tt;
  read = λ v p y a. tt;
  begins = λ v p y a. empty_begins (λ c. false) p a.0;
  cost = λ v p y a. omega (arith, none_headers y a.1);
  few = λ v p y a. omega (arith, ap length (none_marks y a.1));
  places = λ v p y a. no_marks (length p) y.marks (none_marks y a.1);
  parts = λ v p y a n string whole i. a.0;
}

-- so nothing is read
pub bare_accepts : (old : Cursor) → Ready old → Accepts bare old old tt
bare_accepts old r = record {
  bytes = [];
  tally = none;
  spelled = (refl, refl);
  moved = moved_none old;
  ready = r;
  min_headers = λ n z. omega (arith, z);
  only = λ w p q z b g f. record { value = refl; bytes = b.0; tally = b.1 };
}
