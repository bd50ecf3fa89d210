-- A reader goes over one part and then another, over an element by way of its content, and books deviations.
use Rattle.std.proofs.Common.{◌≡◌, ℕ, ◌+◌, ◌*◌, ◌≤◌, List, [], ◌∷◌, ◌++◌, length, map, take, drop, sum, refl, sym, ap, ◌∙◌, arith, append_assoc, append-nil, length-append, Option, Some, None}
use Rattle.std.proofs.lemmas.List.{map-append, take-append-drop}
use Rattle.x509_der_parts.specs.declared.deviation.Deviation.{Deviation}
use Rattle.x509_der_parts.specs.declared.reader.Spot.{Spot}
use Rattle.x509_der_parts.specs.Element.{element, header}
use Rattle.x509_der_parts.specs.facts.Element.{element_length}
use Rattle.x509_der_parts.specs.Deviations.{kind_index}
use Rattle.x509_der_parts.specs.Tally.{Tally, Mark, none, joined, inside, moved, over, marked}
use Rattle.x509_der_parts.specs.facts.Tally.{map-moved, joined_headers, inside_headers, marked_headers}
use Rattle.x509_der_parts.specs.reads.Counts.{counted_more, tallied_joined, tallied_inside, tallied_length, tallied_sum, tallied_marked, counted}
use Rattle.x509_der_parts.specs.Reading.{Cursor, Ready, Moved, Entered, Leaves, IsSpot, Marked, one_more, tallied, placed, carried, put_in}

pub placed_none : (n : ℕ) (o : Option (List Mark)) → placed n o [] ≡ o
placed_none n None = refl
placed_none n (Some ps) = ap Some (append-nil ps)

placed_joined : (at n : ℕ) (o : Option (List Mark)) (a b : Tally) → placed (at + n) (placed at o a.marks) b.marks ≡ placed at o ((joined n a b).marks)
unfolding joined
placed_joined at n None a b = refl
placed_joined at n (Some ps) a b =
    ap Some (append_assoc ps (map (moved at) a.marks) (map (moved (at + n)) b.marks) ∙ ap (λ x. ps ++ (map (moved at) a.marks ++ x)) (sym (map-moved at n b.marks)) ∙ ap (λ x. ps ++ x) (sym (map-append (moved at) a.marks (map (moved n) b.marks))))

placed_inside : (at n : ℕ) (o : Option (List Mark)) (a : Tally) → placed (at + n) o a.marks ≡ placed at o ((inside n a).marks)
unfolding inside
placed_inside at n None a = refl
placed_inside at n (Some ps) a = ap (λ x. Some (ps ++ x)) (sym (map-moved at n a.marks))

pub still_none : (old new : Cursor) (p : List ℕ) (y : Tally) → Moved old new p y → old.places ≡ None → new.places ≡ None
still_none old new p y m n = m.places ∙ ap (λ x. placed old.at x y.marks) n

-- a reader that went over p is ready for more, since headers and marks are few
pub ready_after : (old new : Cursor) (p : List ℕ) (y : Tally) → Ready old → Moved old new p y → 2 * y.headers ≤ length p → length y.marks ≤ y.headers → Ready new
ready_after old new p y r m cost few = record {
  room = omega (arith, r.room, m.headers, ap length m.rest, length-append p new.rest);
  booked = omega (arith, r.booked, m.headers, ap sum m.counts, tallied_sum old.counts y.marks);
  kinds = ap length m.counts ∙ tallied_length old.counts y.marks ∙ r.kinds;
  ends = omega (arith, r.ends, m.at, ap length m.rest, length-append p new.rest);
}

pub moved_none : (old : Cursor) → Moved old old [] none
unfolding none
moved_none old = record { rest = refl; at = omega arith; headers = omega arith; counts = refl; places = sym (placed_none old.at old.places) }

pub moved_joined : (old mid new : Cursor) (p q : List ℕ) (y z : Tally) → Moved old mid p y → Moved mid new q z → Moved old new (p ++ q) (joined (length p) y z)
moved_joined old mid new p q y z i j = record {
  rest = i.rest ∙ ap (λ r. p ++ r) j.rest ∙ sym (append_assoc p q new.rest);
  at = omega (arith, i.at, j.at, length-append p q);
  headers = omega (arith, i.headers, j.headers, joined_headers (length p) y z);
  counts = j.counts ∙ ap (λ k. tallied k z.marks) i.counts ∙ sym (tallied_joined (length p) old.counts y z);
  places = j.places ∙ ap (λ x. placed mid.at x z.marks) i.places ∙ ap (λ x. placed x (placed old.at old.places y.marks) z.marks) i.at ∙ placed_joined old.at (length p) old.places y z;
}

pub moved_inside : (t : ℕ) (old inner end new : Cursor) (after c : List ℕ) (y : Tally) → Entered t old inner after → Moved inner end c y → end.rest ≡ [] → Leaves end new after → Moved old new (element t c) (inside (header c) y)
moved_inside t old inner end new after c y n m done l =
    let whole : inner.rest ≡ c = m.rest ∙ ap (λ x. c ++ x) done ∙ append-nil c in
    let at : inner.at ≡ old.at + header c = n.at ∙ ap (λ x. old.at + header x) whole in
    record {
      rest = n.bytes ∙ ap (λ x. element t x ++ after) whole ∙ ap (λ x. element t c ++ x) (sym l.rest);
      at = omega (arith, l.at, m.at, at, element_length t c);
      headers = omega (arith, l.headers, m.headers, n.headers, inside_headers (header c) y);
      counts = l.counts ∙ m.counts ∙ ap (λ x. tallied x y.marks) n.counts ∙ sym (tallied_inside (header c) old.counts y);
      places = l.places ∙ m.places ∙ ap (λ x. placed inner.at x y.marks) n.places ∙ ap (λ x. placed x old.places y.marks) at ∙ placed_inside old.at (header c) old.places y;
    }

-- deviations over the whole of what was gone over

-- places of each kind over what stands between two places, behind the first n
abbrev pub all_put : ℕ → List Deviation → ℕ → ℕ → Option (List Mark) → Option (List Mark)
all_put n [] from to o = o
all_put n (k ∷ ks) from to o = put_in n (record { kind = k; start = from; end = to }) (all_put n ks from to o)

-- kinds are booked over what was read since a reader was at old, the last of them first
pub record Booked (old mid new : Cursor) (ks : List Deviation) : Type 0 where
  pub rest : new.rest ≡ mid.rest
  pub at : new.at ≡ mid.at
  pub headers : new.headers ≡ mid.headers
  pub counts : new.counts ≡ counted mid.counts ks
  pub places : new.places ≡ all_put (carried old.places) ks old.at mid.at mid.places

pub booked_none : (old mid : Cursor) → Booked old mid mid []
booked_none old mid = record { rest = refl; at = refl; headers = refl; counts = refl; places = refl }

pub booked_one : (old mid new : Cursor) (kind : Deviation) (spot : Spot) → IsSpot old spot → Marked mid new kind spot → Booked old mid new (kind ∷ [])
booked_one old mid new kind spot s m = record {
  rest = m.rest;
  at = m.at;
  headers = m.headers;
  counts = m.counts;
  places = m.places ∙ ap (λ x. put_in x (record { kind = kind; start = spot.start; end = mid.at }) mid.places) s.before ∙ ap (λ x. put_in (carried old.places) (record { kind = kind; start = x; end = mid.at }) mid.places) s.start;
}

-- one kind more, which stands before the others
pub booked_more : (old mid last new : Cursor) (kind : Deviation) (ks : List Deviation) (spot : Spot) → IsSpot old spot → Booked old mid last ks → Marked last new kind spot → Booked old mid new (kind ∷ ks)
booked_more old mid last new kind ks spot s b m = record {
  rest = m.rest ∙ b.rest;
  at = m.at ∙ b.at;
  headers = m.headers ∙ b.headers;
  counts = m.counts ∙ ap (λ x. one_more x (kind_index kind)) b.counts ∙ counted_more mid.counts kind ks;
  places = m.places
      ∙ ap (λ x. put_in x (record { kind = kind; start = spot.start; end = last.at }) last.places) s.before
      ∙ ap (λ x. put_in (carried old.places) (record { kind = kind; start = x; end = last.at }) last.places) s.start
      ∙ ap (λ x. put_in (carried old.places) (record { kind = kind; start = old.at; end = x }) last.places) b.at
      ∙ ap (put_in (carried old.places) (record { kind = kind; start = old.at; end = mid.at })) b.places;
}

put_front : (m : Mark) (ps r : List Mark) → take (length ps) (ps ++ r) ++ m ∷ drop (length ps) (ps ++ r) ≡ ps ++ m ∷ r
put_front m [] r = refl
put_front m (p ∷ ps) r = ap (λ x. p ∷ x) (put_front m ps r)

moved_over : (at n : ℕ) (k : Deviation) → moved at (record { kind = k; start = 0; end = n }) ≡ record { kind = k; start = at; end = at + n }
unfolding moved
moved_over at n k =
    let z : 0 + at ≡ at = omega arith in
    let e : n + at ≡ at + n = omega arith in
    ap (λ x. record { kind = k; start = x; end = n + at }) z ∙ ap (λ x. record { kind = k; start = at; end = x }) e

all_some : (at n : ℕ) (ks : List Deviation) (ps ms : List Mark) → all_put (length ps) ks at (at + n) (Some (ps ++ map (moved at) ms)) ≡ Some (ps ++ map (moved at) (over n ks ++ ms))
all_some at n [] ps ms = refl
all_some at n (k ∷ ks) ps ms =
    ap (put_in (length ps) (record { kind = k; start = at; end = at + n })) (all_some at n ks ps ms)
    ∙ ap Some (put_front (record { kind = k; start = at; end = at + n }) ps (map (moved at) (over n ks ++ ms)) ∙ ap (λ x. ps ++ x ∷ map (moved at) (over n ks ++ ms)) (sym (moved_over at n k)))

all_none : (ks : List Deviation) (n from to : ℕ) → all_put n ks from to None ≡ None
all_none [] n from to = refl
all_none (k ∷ ks) n from to = ap (put_in n (record { kind = k; start = from; end = to })) (all_none ks n from to)

all_placed : (at n : ℕ) (ks : List Deviation) (o : Option (List Mark)) (y : Tally) → all_put (carried o) ks at (at + n) (placed at o y.marks) ≡ placed at o ((marked ks n y).marks)
unfolding marked
all_placed at n ks None y = all_none ks 0 at (at + n)
all_placed at n ks (Some ps) y = all_some at n ks ps y.marks

pub moved_marked : (old mid new : Cursor) (p : List ℕ) (y : Tally) (ks : List Deviation) → Moved old mid p y → Booked old mid new ks → Moved old new p (marked ks (length p) y)
moved_marked old mid new p y ks m b = record {
  rest = m.rest ∙ ap (λ x. p ++ x) (sym b.rest);
  at = b.at ∙ m.at;
  headers = omega (arith, b.headers, m.headers, marked_headers ks (length p) y _ refl);
  counts = b.counts ∙ ap (λ x. counted x ks) m.counts ∙ sym (tallied_marked ks (length p) old.counts y);
  places = b.places ∙ ap (λ x. all_put (carried old.places) ks old.at x mid.places) m.at ∙ ap (λ x. all_put (carried old.places) ks old.at (old.at + length p) x) m.places ∙ all_placed old.at (length p) ks old.places y;
}

carried_more : (n : ℕ) (o : Option (List Mark)) (ms : List Mark) → carried o ≤ carried (placed n o ms)
carried_more n None ms = omega arith
carried_more n (Some ps) ms = omega (arith, length-append ps (map (moved n) ms))

-- what was carried at a spot is still there
pub spot_stays : (old new : Cursor) (p : List ℕ) (y : Tally) (spot : Spot) → IsSpot old spot → Moved old new p y → spot.before ≤ carried new.places
spot_stays old new p y spot s m = omega (arith, s.before, carried_more old.at old.places y.marks, ap carried m.places)

put_more : (n : ℕ) (m : Mark) (o : Option (List Mark)) → carried o ≤ carried (put_in n m o)
put_more n m None = omega arith
put_more n m (Some ps) = omega (arith, length-append (take n ps) (m ∷ drop n ps), ap length (take-append-drop n ps), length-append (take n ps) (drop n ps))

-- and still there when a deviation was booked
pub spot_stays_marked : (mid last : Cursor) (kind : Deviation) (other spot : Spot) → spot.before ≤ carried mid.places → Marked mid last kind other → spot.before ≤ carried last.places
spot_stays_marked mid last kind other spot h m = omega (arith, h, put_more other.before (record { kind = kind; start = other.start; end = mid.at }) mid.places, ap carried m.places)
