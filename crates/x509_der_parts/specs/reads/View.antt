-- Reading a type by way of a plain shape, with deviations over the whole.
use Rattle.std.proofs.Common.{◌≡◌, ℕ, ◌+◌, ◌≤◌, ◌<◌, List, [], ◌∷◌, ◌++◌, length, sum, refl, sym, ap, ◌∙◌, arith, length-append, Option, Some, None}
use Rattle.x509_der_parts.specs.declared.deviation.Deviation.{Deviation}
use Rattle.x509_der_parts.specs.declared.reader.Spot.{Spot}
use Rattle.x509_der_parts.specs.declared.errors.ReadError.{ReadError}
use Rattle.x509_der_parts.specs.declared.errors.ReadError.TheVariants.{OutOfMemory}
use Rattle.x509_der_parts.specs.Tally.{Tally, marked}
use Rattle.x509_der_parts.specs.facts.Tally.{marked_headers, marked_length, marked_clean}
use Rattle.x509_der_parts.specs.reads.Counts.{tallied_sum, tallied_length, one_more_sum}
use Rattle.x509_der_parts.specs.Shape.{Shape, Lawful, Follows}
use Rattle.x509_der_parts.specs.View.{viewed, Viewed}
use Rattle.x509_der_parts.specs.laws.View.{some_one}
use Rattle.x509_der_parts.specs.Reading.{Cursor, Ready, Accepts, Refuses, IsSpot, GoesBack, Marked, NotMarked, put_in}
use Rattle.x509_der_parts.specs.reads.Cursor.{Booked, moved_marked, ready_after, still_none}
use Rattle.x509_der_parts.specs.reads.Standing.{stays}

-- a reader that booked a mark is ready for more
pub ready_marked : (old new : Cursor) (kind : Deviation) (spot : Spot) → Ready old → sum old.counts < old.headers → Marked old new kind spot → Ready new
ready_marked old new kind spot r h m = record {
  room = omega (arith, r.room, m.headers, ap length m.rest);
  booked = omega (arith, h, m.headers, ap sum m.counts, one_more_sum old.counts kind);
  kinds = ap length m.counts ∙ tallied_length old.counts (record { kind = kind; start = 0; end = 0 } ∷ []) ∙ r.kinds;
  ends = omega (arith, r.ends, m.at, ap length m.rest);
}

-- the marks over the whole have headers to spare
abbrev pub Few : {B V : Type 0} → (B → Option (V × List Deviation)) → Shape B → Type 0
Few {B} {V} of s = (b : B) (v : V) (ks : List Deviation) (p : List ℕ) (y : Tally) → of b ≡ Some (v, ks) → s.spelled b p y → length ks + length y.marks ≤ y.headers

module _ {B V : Type 0} (of : B → Option (V × List Deviation)) (back : V → B) (valid : V → Type 0) (readable : V → Type 0) (s : Shape B) (l : Lawful s) (few : Few of s) where
  pub viewed_accepts : (old mid new : Cursor) (b : B) (v : V) (ks : List Deviation) → Ready old → Accepts s old mid b → of b ≡ Some (v, ks) → Booked old mid new ks → Accepts (viewed of back valid readable s) old new v
  viewed_accepts old mid new b v ks r a m k =
      let y = marked ks (length a.bytes) a.tally in
      let mh = marked_headers ks (length a.bytes) a.tally y refl in
      let ml = marked_length ks (length a.bytes) a.tally y refl in
      let n = moved_marked old mid new a.bytes a.tally ks a.moved k in
      record {
        bytes = a.bytes;
        tally = y;
        spelled = record { base = b; kinds = ks; part = a.tally; spelled = a.spelled; means = m; tally = refl };
        moved = n;
        ready = ready_after old new a.bytes y r n (omega (arith, l.cost b a.bytes a.tally a.spelled, mh)) (omega (arith, few b v ks a.bytes a.tally m a.spelled, mh, ml));
        min_headers = λ n z. omega (arith, a.min_headers n z, mh);
        only = λ w p q z i e g.
            let o = a.only i.base p q i.part i.spelled e g in
            let ob = o.bytes in
            let ot = o.tally in
            let n = some_one w v i.kinds ks (sym i.means ∙ ap of o.value ∙ m) in
            let nk = n.1 in
            let it = i.tally in
            record { value = n.0; bytes = ob; tally = cc };
      }

  pub viewed_refuses : (old new : Cursor) (e : ReadError) → Refuses s old new e → Refuses (viewed of back valid readable s) old new e
  viewed_refuses old new e a = record {
    spares = a.spares;
    grows = a.grows;
    bound = a.bound;
    min_headers = a.min_headers;
    forward = a.forward;
    within = a.within;
    outside = a.outside;
    none = λ w p q z i g f.
        let o = a.none i.base p q i.part i.spelled g f in
        record { memory = o.memory; marked = λ t c. o.marked t (marked_clean i.kinds (length p) i.part z i.tally c).1 };
  }

  -- the plain value means nothing, and the reader stands where that began
  pub viewed_meaningless : (old mid new : Cursor) (spot : Spot) (b : B) (e : ReadError) → (e ≡ OutOfMemory → ⊥) → Accepts s old mid b → of b ≡ None → IsSpot old spot → GoesBack mid new spot → Refuses (viewed of back valid readable s) old new e
  viewed_meaningless old mid new spot b e nm a m i g =
      let am = a.moved in
      let k = g.headers in
      let at : new.at ≡ old.at = g.at ∙ i.start in
      record {
        spares = λ f p. nm;
        grows = omega (arith, k, am.headers);
        bound = omega (arith, k, am.headers, l.cost b a.bytes a.tally a.spelled, ap length am.rest, length-append a.bytes mid.rest);
        min_headers = λ x n z. omega (arith, a.min_headers n z, k, am.headers);
        forward = omega (arith, at);
        within = omega (arith, at);
        outside = λ f. at;
        none = λ w p q z i g f.
            let o = a.only i.base p q i.part i.spelled g f in
            let c : Some (w, i.kinds) ≡ None = sym i.means ∙ ap of o.value ∙ m in
            absurd cc;
      }

  -- what the plain value means has a mark
  kinds_mark : (old mid : Cursor) (b : B) (v : V) (ks : List Deviation) → Accepts s old mid b → of b ≡ Some (v, ks) → 1 ≤ length ks → (w : V) (p q : List ℕ) (z : Tally) → Viewed of s w p z → old.rest ≡ p ++ q → Follows s.avoids q → z.marks ≡ [] → ⊥
  kinds_mark old mid b v ks a m n w p q z i g f c =
      let o = a.only i.base p q i.part i.spelled g f in
      let k = some_one w v i.kinds ks (sym i.means ∙ ap of o.value ∙ m) in
      omega (arith, n, ap length (sym k.1 ∙ (marked_clean i.kinds (length p) i.part z i.tally c).0))

  -- no memory for the place of a mark
  pub viewed_memory : (old mid new : Cursor) (b : B) (v : V) (ks : List Deviation) (e : ReadError) → Accepts s old mid b → of b ≡ Some (v, ks) → 1 ≤ length ks → NotMarked mid new e → Refuses (viewed of back valid readable s) old new e
  viewed_memory old mid new b v ks e a k n m =
      let am = a.moved in
      record {
        spares = λ f p x. m.carries (still_none old mid a.bytes a.tally am p);
        grows = omega (arith, m.headers, am.headers);
        bound = omega (arith, m.headers, am.headers, l.cost b a.bytes a.tally a.spelled, ap length am.rest, length-append a.bytes mid.rest);
        min_headers = λ x. absurd (x m.memory);
        none = λ w p q z i g f. record { memory = m.memory; marked = λ t c. kinds_mark old mid b v ks a k n w p q z i g f c };
        forward = omega (arith, m.at, am.at);
        within = omega (arith, m.at, am.at, ap length am.rest, length-append a.bytes mid.rest);
        outside = λ f. m.at ∙ (stays s l old mid b a f).1;
      }

  -- there is room in the counts for a mark over the whole
  pub mark_room : (old mid : Cursor) (b : B) (v : V) (ks : List Deviation) → Ready old → Accepts s old mid b → of b ≡ Some (v, ks) → 1 ≤ length ks → sum mid.counts < mid.headers
  mark_room old mid b v ks r a m n =
      let am = a.moved in
      omega (arith, r.booked, am.headers, ap sum am.counts, tallied_sum old.counts a.tally.marks, few b v ks a.bytes a.tally m a.spelled)

  -- and for a second one
  pub mark_room_more : (old mid last : Cursor) (b : B) (v : V) (ks : List Deviation) (kind : Deviation) (spot : Spot) → Ready old → Accepts s old mid b → of b ≡ Some (v, ks) → 2 ≤ length ks → Marked mid last kind spot → sum last.counts < last.headers
  mark_room_more old mid last b v ks kind spot r a m n k =
      let am = a.moved in
      omega (arith, r.booked, am.headers, k.headers, ap sum am.counts, ap sum k.counts, tallied_sum old.counts a.tally.marks, one_more_sum mid.counts kind, few b v ks a.bytes a.tally m a.spelled)

  -- no memory for the place of a second mark
  pub viewed_memory_more : (old mid last new : Cursor) (b : B) (v : V) (ks : List Deviation) (kind : Deviation) (spot : Spot) (e : ReadError) → Accepts s old mid b → of b ≡ Some (v, ks) → 1 ≤ length ks → Marked mid last kind spot → NotMarked last new e → Refuses (viewed of back valid readable s) old new e
  viewed_memory_more old mid last new b v ks kind spot e a d n k m =
      let am = a.moved in
      record {
        spares = λ f p x. m.carries (k.places ∙ ap (put_in spot.before (record { kind = kind; start = spot.start; end = mid.at })) (still_none old mid a.bytes a.tally am p));
        grows = omega (arith, m.headers, k.headers, am.headers);
        bound = omega (arith, m.headers, k.headers, am.headers, l.cost b a.bytes a.tally a.spelled, ap length am.rest, length-append a.bytes mid.rest);
        min_headers = λ x. absurd (x m.memory);
        none = λ w p q z i g f. record { memory = m.memory; marked = λ t c. kinds_mark old mid b v ks a d n w p q z i g f c };
        forward = omega (arith, m.at, k.at, am.at);
        within = omega (arith, m.at, k.at, am.at, ap length am.rest, length-append a.bytes mid.rest);
        outside = λ f. m.at ∙ k.at ∙ (stays s l old mid b a f).1;
      }
