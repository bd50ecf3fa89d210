-- Going past a shape: the lemmas of reading hold where a read takes no memory.
use Rattle.std.proofs.Common.{ap, ◌∙◌, Result, Ok, Err, ◌≡◌, refl, List, ℕ, Bool, ◌≤◌, ◌⊎◌, inl, inr, Option, None, Some}
use Rattle.x509_der_parts.specs.declared.errors.ReadError.{ReadError}
use Rattle.x509_der_parts.specs.declared.errors.ReadError.TheVariants.{OutOfMemory}
use Rattle.x509_der_parts.specs.Shape.{Shape, Lawful, IsElement, Follows}
use Rattle.x509_der_parts.specs.Structure.{structure}
use Rattle.x509_der_parts.specs.declared.deviation.Deviation.{Deviation}
use Rattle.x509_der_parts.specs.Tally.{Tally}
use Rattle.x509_der_parts.specs.DefinedBy.{IsFamily, defined_by}
use Rattle.x509_der_parts.specs.Tagged.{tagged, MinInside}
use Rattle.x509_der_parts.specs.Optional.{optional}
use Rattle.x509_der_parts.specs.Choice.{choice, sides, Either}
use Rattle.x509_der_parts.specs.Prefixed.{prefixed}
use Rattle.x509_der_parts.specs.Join.{join}
use Rattle.x509_der_parts.specs.View.{viewed}
use Rattle.x509_der_parts.specs.Variant.{variant}
use Rattle.x509_der_parts.specs.laws.Variant.{variant_accepts, variant_refuses}
use Rattle.x509_der_parts.specs.reads.Structure.{structure_accepts}
use Rattle.x509_der_parts.specs.Reading.{Cursor, Accepts, Refuses, Passed, Passes, Reads, thrifty}

pub thrifty_lawful : {V : Type 0} (s : Shape V) → Lawful s → Lawful (thrifty s)
thrifty_lawful s l = record {
  one = l.one;
  written = λ v a b. let w = l.written v a b in record { headers = w.headers; spelled = w.spelled };
  clean = l.clean;
  valid = l.valid;
  read = l.read;
  begins = l.begins;
  cost = l.cost;
  few = l.few;
  places = l.places;
  parts = l.parts;
}

pub thrifty_element : {V : Type 0} (s : Shape V) → IsElement s → IsElement (thrifty s)
thrifty_element s l = record { one = l.one; strict = l.strict; free = l.free; tags = l.tags; min_headers = l.min_headers }

pub thrifty_family : {K W : Type 0} (shapes : K → Shape W) (begins ends : ℕ → Bool) → IsFamily shapes begins ends → IsFamily (λ k. thrifty (shapes k)) begins ends
thrifty_family shapes begins ends f = record { lawful = λ k. thrifty_lawful (shapes k) (f.lawful k); begin = f.begin; end = f.end }

-- two shapes of one grammar
pub record Alike {V : Type 0} (s t : Shape V) : Type 0 where
  pub to : (v : V) (p : List ℕ) (y : Tally) → s.spelled v p y → t.spelled v p y
  pub from : (v : V) (p : List ℕ) (y : Tally) → t.spelled v p y → s.spelled v p y
  pub starts : (q : List ℕ) → Follows t.starts q → Follows s.starts q
  pub avoids : (q : List ℕ) → Follows t.avoids q → Follows s.avoids q
  pub min_headers : (r : List ℕ) (n : ℕ) → t.min_headers r n → s.min_headers r n

pub alike_accepts : {V : Type 0} (s t : Shape V) → Alike s t → (old new : Cursor) (v : V) → Accepts s old new v → Accepts t old new v
alike_accepts s t k old new v a = record {
  bytes = a.bytes;
  tally = a.tally;
  spelled = k.to v a.bytes a.tally a.spelled;
  moved = a.moved;
  ready = a.ready;
  min_headers = λ n h. a.min_headers n (k.min_headers old.rest n h);
  only = λ w p q z b e g. a.only w p q z (k.from w p z b) e (k.avoids q g);
}

pub alike_refuses : {V : Type 0} (s t : Shape V) → Alike s t → (old new : Cursor) (e : ReadError) → (t.frugal → s.frugal) → Refuses s old new e → Refuses t old new e
alike_refuses s t k old new e f a = record {
  grows = a.grows;
  bound = a.bound;
  min_headers = λ x n h. a.min_headers x n (k.min_headers old.rest n h);
  spares = λ y. a.spares (f y);
  none = λ w p q z i g h. let o = a.none w p q z (k.from w p z i) g (k.avoids q h) in record { memory = o.memory; marked = λ y. o.marked (f y) };
  forward = a.forward;
  within = a.within;
  outside = λ h. a.outside (k.starts old.rest h);
}

-- the shapes that are made of thrifty ones are alike
pub alike_itself : {V : Type 0} (s : Shape V) → Alike s (thrifty s)
alike_itself s = record { to = λ v p y i. i; from = λ v p y i. i; starts = λ q f. f; avoids = λ q f. f; min_headers = λ r n h. h }

pub alike_back : {V : Type 0} (s : Shape V) → Alike (thrifty s) s
alike_back s = record { to = λ v p y i. i; from = λ v p y i. i; starts = λ q f. f; avoids = λ q f. f; min_headers = λ r n h. h }

inside_thrifty : {V : Type 0} (t : ℕ) (s : Shape V) (r : List ℕ) (n : ℕ) → (n ≤ 1) ⊎ MinInside t s r n → (n ≤ 1) ⊎ MinInside t (thrifty s) r n
inside_thrifty t s r n (inl h) = inl h
inside_thrifty t s r n (inr m) = inr (record { content = m.content; after = m.after; inner = m.inner; bytes = m.bytes; min_headers = m.min_headers; sum = m.sum })

pub alike_tagged : {V : Type 0} (t : ℕ) (s : Shape V) → Alike (tagged t (thrifty s)) (thrifty (tagged t s))
alike_tagged t s = record {
  to = λ v p y i. record { content = i.content; part = i.part; spelled = i.spelled; bytes = i.bytes; tally = i.tally };
  from = λ v p y i. record { content = i.content; part = i.part; spelled = i.spelled; bytes = i.bytes; tally = i.tally };
  starts = λ q f. f;
  avoids = λ q f. f;
  min_headers = inside_thrifty t s;
}

pub alike_optional : {V : Type 0} (s : Shape V) → Alike (optional (thrifty s)) (thrifty (optional s))
alike_optional s = record {
  to = elim [ None ↦ λ p y i. i | Some w ↦ λ p y i. i ];
  from = elim [ None ↦ λ p y i. i | Some w ↦ λ p y i. i ];
  starts = λ q f. f;
  avoids = λ q f. f;
  min_headers = λ r n h. h;
}

pub alike_viewed : {B V : Type 0} (of : B → Option (V × List Deviation)) (back : V → B) (valid readable : V → Type 0) (s : Shape B) → Alike (viewed of back valid readable (thrifty s)) (thrifty (viewed of back valid readable s))
alike_viewed of back valid readable s = record {
  to = λ v p y i. record { base = i.base; kinds = i.kinds; part = i.part; spelled = i.spelled; means = i.means; tally = i.tally };
  from = λ v p y i. record { base = i.base; kinds = i.kinds; part = i.part; spelled = i.spelled; means = i.means; tally = i.tally };
  starts = λ q f. f;
  avoids = λ q f. f;
  min_headers = λ r n h. h;
}

pub alike_variant : {P V : Type 0} (make : P → V) (of : V → List ℕ) (Fit : V → Type 0) (s : Shape P) → Alike (variant make of Fit (thrifty s)) (thrifty (variant make of Fit s))
alike_variant make of Fit s = record {
  to = λ v p y i. record { payload = i.payload; is = i.is; spelled = i.spelled };
  from = λ v p y i. record { payload = i.payload; is = i.is; spelled = i.spelled };
  starts = λ q f. f;
  avoids = λ q f. f;
  min_headers = λ r n h. h;
}

pub alike_join : {X V W : Type 0} (fst : X → V) (snd : X → W) (a : Shape V) (b : Shape W) → Alike (join fst snd (thrifty a) (thrifty b)) (thrifty (join fst snd a b))
alike_join fst snd a b = record { to = λ v p y i. i; from = λ v p y i. i; starts = λ q f. f; avoids = λ q f. f; min_headers = λ r n h. h }

pub alike_prefixed : {V : Type 0} (c : ℕ) (s : Shape V) → Alike (prefixed c (thrifty s)) (thrifty (prefixed c s))
alike_prefixed c s = record { to = λ v p y i. i; from = λ v p y i. i; starts = λ q f. f; avoids = λ q f. f; min_headers = λ r n h. h }

sides_to : {V W : Type 0} (a : Shape V) (b : Shape W) (v : V ⊎ W) (p : List ℕ) (y : Tally) → Either (thrifty a) (thrifty b) v p y → Either a b v p y
sides_to a b (inl v) p y i = i
sides_to a b (inr v) p y i = i

sides_from : {V W : Type 0} (a : Shape V) (b : Shape W) (v : V ⊎ W) (p : List ℕ) (y : Tally) → Either a b v p y → Either (thrifty a) (thrifty b) v p y
sides_from a b (inl v) p y i = i
sides_from a b (inr v) p y i = i

pub alike_choice : {V W : Type 0} (a : Shape V) (b : Shape W) → Alike (choice (thrifty a) (thrifty b)) (thrifty (choice a b))
alike_choice a b = record { to = λ v. sides_to a b (sides v); from = λ v. sides_from a b (sides v); starts = λ q f. f; avoids = λ q f. f; min_headers = λ r n h. h }

pub alike_defined_by : {X K W : Type 0} (key : X → K) (value : X → W) (a : Shape K) (shapes : K → Shape W) (begins ends : ℕ → Bool) → Alike (defined_by key value (thrifty a) (λ k. thrifty (shapes k)) begins ends) (thrifty (defined_by key value a shapes begins ends))
alike_defined_by key value a shapes begins ends = record { to = λ v p y i. i; from = λ v p y i. i; starts = λ q f. f; avoids = λ q f. f; min_headers = λ r n h. h }

-- what a read answers was gone past
pub read_passes : {V B : Type 0} (s : Shape V) (brief : V → B) (old new : Cursor) (v : V) → Accepts s old new v → Passed (thrifty s) brief old new (brief v)
read_passes s brief old new v a = record { value = v; accepts = alike_accepts s (thrifty s) (alike_itself s) old new v a; kept = refl }

pub read_refuses : {V : Type 0} (s : Shape V) (old new : Cursor) (e : ReadError) → s.frugal → Refuses s old new e → Refuses (thrifty s) old new e
read_refuses s old new e f a = alike_refuses s (thrifty s) (alike_itself s) old new e (λ u. f) a

-- a refusal that isn't for memory
pub never_refuses : {V : Type 0} (s : Shape V) (old new : Cursor) (e : ReadError) → (e ≡ OutOfMemory → ⊥) → Refuses s old new e → Refuses (thrifty s) old new e
never_refuses s old new e n a = record {
  grows = a.grows;
  bound = a.bound;
  min_headers = a.min_headers;
  spares = λ u p. n;
  none = λ w p q z i g h. absurd (n (a.none w p q z i g h).memory);
  forward = a.forward;
  within = a.within;
  outside = a.outside;
}

-- a type that has the same parts as another
pub structure_passes : {V W B C : Type 0} (view : W → V) (s : Shape V) (inj : (x y : W) → view x ≡ view y → x ≡ y) (made : (f : V) → (w : W) × (view w ≡ f)) (brief : V → B) (kept : W → C) (old new : Cursor) (b : B) (k : C) → ((w : W) → brief (view w) ≡ b → kept w ≡ k) → Passed (thrifty s) brief old new b → Passed (thrifty (structure view s)) kept old new k
structure_passes view s inj made brief kept old new b k is p =
    let m = made p.value in
    record { value = m.0; accepts = structure_accepts view (thrifty s) inj old new m.0 (rw m.1 p.accepts); kept = is m.0 (ap brief m.1 ∙ p.kept) }

-- what a read answers, where it takes no memory
pub read_is_passed : {V : Type 0} (s : Shape V) → s.frugal → (old new : Cursor) (r : Result V ReadError) → Reads s old new r → Passes (thrifty s) (λ v. v) old new r
read_is_passed s f old new (Ok v) a = read_passes s (λ v. v) old new v a
read_is_passed s f old new (Err e) a = read_refuses s old new e f a

-- one kind of values
pub variant_passes : {P V B C : Type 0} (make : P → V) (of : V → List ℕ) (Fit : V → Type 0) (s : Shape P) (brief : P → B) (kept : V → C) (old new : Cursor) (b : B) (k : C) → ((u : P) → brief u ≡ b → kept (make u) ≡ k) → Passed (thrifty s) brief old new b → Passed (thrifty (variant make of Fit s)) kept old new k
variant_passes make of Fit s brief kept old new b k is p = record {
  value = make p.value;
  accepts = alike_accepts (variant make of Fit (thrifty s)) (thrifty (variant make of Fit s)) (alike_variant make of Fit s) old new (make p.value) (variant_accepts make of Fit (thrifty s) old new p.value (make p.value) refl p.accepts);
  kept = is p.value p.kept;
}

pub variant_not_passed : {P V : Type 0} (make : P → V) (of : V → List ℕ) (Fit : V → Type 0) (s : Shape P) (old new : Cursor) (e : ReadError) → Refuses (thrifty s) old new e → Refuses (thrifty (variant make of Fit s)) old new e
variant_not_passed make of Fit s old new e p = alike_refuses (variant make of Fit (thrifty s)) (thrifty (variant make of Fit s)) (alike_variant make of Fit s) old new e (λ u. u) (variant_refuses make of Fit (thrifty s) old new e p)

pub variant_passed : {P V B : Type 0} (make : P → V) (of : V → List ℕ) (Fit : V → Type 0) (s : Shape P) (brief : P → B) (kept : V → B) (old new : Cursor) (r : Result B ReadError) → ((u : P) → kept (make u) ≡ brief u) → Passes (thrifty s) brief old new r → Passes (thrifty (variant make of Fit s)) kept old new r
variant_passed make of Fit s brief kept old new (Ok b) is p = variant_passes make of Fit s brief kept old new b b (λ u e. is u ∙ e) p
variant_passed make of Fit s brief kept old new (Err e) is p = variant_not_passed make of Fit s old new e p
