-- What reading does: the state of a reader, and what a read of a shape gives.
use Rattle.std.specs.Prelude.{◌≡◌, ℕ, ◌+◌, ◌*◌, ◌≤◌, ◌<◌, ◌^◌, true, List, [], ◌∷◌, ◌++◌, length, map, take, drop, Option, Some, None, sum, slice_set, slice_index, Result, Ok, Err, ◌⊎◌}
use Rattle.std.specs.Borrow.{Bor}
use Rattle.x509_der_parts.specs.declared.deviation.Deviation.{Deviation}
use Rattle.x509_der_parts.specs.declared.reader.Spot.{Spot}
use Rattle.x509_der_parts.specs.declared.errors.ReadError.{ReadError}
use Rattle.x509_der_parts.specs.declared.errors.ReadError.TheVariants.{OutOfMemory}
use Rattle.x509_der_parts.specs.Element.{element, header}
pub use Rattle.x509_der_parts.specs.Element.{is_tag, IsRaw}
use Rattle.x509_der_parts.specs.Deviations.{kind_index}
use Rattle.x509_der_parts.specs.Tally.{Tally, Mark, moved}
use Rattle.x509_der_parts.specs.Shape.{Shape, Follows, Same}

-- what a contract sees of a reader
pub record Cursor : Type 0 where
  -- the bytes that are left of the element that is read
  pub rest : List ℕ
  -- how many bytes of the input stand before them
  pub at : ℕ
  -- how many headers were decoded
  pub headers : ℕ
  -- how many deviations of each kind were met
  pub counts : List ℕ
  -- where they stand, in a call that asks for it
  pub places : Option (List Mark)

-- there is room for the headers and the marks that the rest can add
pub record Ready (r : Cursor) : Type 0 where
  pub room : 2 * r.headers + length r.rest < 2 ^ 64
  pub booked : sum r.counts ≤ r.headers
  pub kinds : length r.counts ≡ 10
  pub ends : r.at + length r.rest < 2 ^ 64

-- the counts with one more of a kind
abbrev pub one_more : List ℕ → ℕ → List ℕ
one_more counts i = slice_set counts i (slice_index counts i + 1)

-- the counts with those of the marks
abbrev pub tallied : List ℕ → List Mark → List ℕ
tallied counts [] = counts
tallied counts (m ∷ ms) = tallied (one_more counts (kind_index m.kind)) ms

-- the places with those of the marks of what is spelled behind n bytes
abbrev pub placed : ℕ → Option (List Mark) → List Mark → Option (List Mark)
placed n None ms = None
placed n (Some ps) ms = Some (ps ++ map (moved n) ms)

-- how many places are carried
abbrev pub carried : Option (List Mark) → ℕ
carried None = 0
carried (Some ps) = length ps

-- one more place, behind the first n
abbrev pub put_in : ℕ → Mark → Option (List Mark) → Option (List Mark)
put_in n m None = None
put_in n m (Some ps) = Some (take n ps ++ m ∷ drop n ps)

-- the list in an option
abbrev pub listed : {L : Type 0} → (L → List Mark) → Option L → Option (List Mark)
listed of None = None
listed of (Some l) = Some (of l)

-- the reader went over bytes with that tally
pub record Moved (old new : Cursor) (bytes : List ℕ) (tally : Tally) : Type 0 where
  pub rest : old.rest ≡ bytes ++ new.rest
  pub at : new.at ≡ old.at + length bytes
  pub headers : new.headers ≡ old.headers + tally.headers
  pub counts : new.counts ≡ tallied old.counts tally.marks
  pub places : new.places ≡ placed old.at old.places tally.marks

-- a read answered a value: it went over the value's spelling, and no other spelling stands there
pub record Accepts {V : Type 0} (s : Shape V) (old new : Cursor) (v : V) : Type 0 where
  pub bytes : List ℕ
  pub tally : Tally
  pub spelled : s.spelled v bytes tally
  pub moved : Moved old new bytes tally
  pub ready : Ready new
  pub min_headers : (n : ℕ) → s.min_headers old.rest n → n ≤ tally.headers
  pub only : (w : V) (p q : List ℕ) (z : Tally) → s.spelled w p z → old.rest ≡ p ++ q → Follows s.avoids q → Same w v p bytes z tally

-- why a spelling was refused: memory was; and where a read takes none but for places, a mark stands in the spelling
pub record ForMemory {V : Type 0} (s : Shape V) (e : ReadError) (z : Tally) : Type 0 where
  pub memory : e ≡ OutOfMemory
  pub marked : s.frugal → z.marks ≡ [] → ⊥

-- a read was refused: for memory, or no spelling stands there
pub record Refuses {V : Type 0} (s : Shape V) (old new : Cursor) (e : ReadError) : Type 0 where
  pub grows : old.headers ≤ new.headers
  pub bound : 2 * new.headers ≤ 2 * old.headers + length old.rest + 2
  pub min_headers : (e ≡ OutOfMemory → ⊥) → (n : ℕ) → s.min_headers old.rest n → old.headers + n ≤ new.headers
  pub spares : s.frugal → old.places ≡ None → e ≡ OutOfMemory → ⊥
  pub none : (w : V) (p q : List ℕ) (z : Tally) → s.spelled w p z → old.rest ≡ p ++ q → Follows s.avoids q → ForMemory s e z
  -- the reader stands within what was left, and at its first byte where that begins no spelling
  pub forward : old.at ≤ new.at
  pub within : new.at ≤ old.at + length old.rest
  pub outside : Follows s.starts old.rest → new.at ≡ old.at

-- what a read of a shape gives
abbrev pub Reads : {V : Type 0} → Shape V → Cursor → Cursor → Result V ReadError → Type 0
Reads s old new (Ok v) = Accepts s old new v
Reads s old new (Err e) = Refuses s old new e

-- the same shape, where what goes past it takes no memory but for places
abbrev pub thrifty : {V : Type 0} → Shape V → Shape V
thrifty s = record {
  spelled = s.spelled;
  strict = s.strict;
  valid = s.valid;
  readable = s.readable;
  starts = s.starts;
  avoids = s.avoids;
  min_headers = s.min_headers;
  frugal = Unit {0};
  parts = s.parts;
}

-- a value was read, of which this alone is kept
pub record Passed {V B : Type 0} (s : Shape V) (brief : V → B) (old new : Cursor) (b : B) : Type 0 where
  pub value : V
  pub accepts : Accepts s old new value
  pub kept : brief value ≡ b

-- what going past a shape gives
abbrev pub Passes : {V B : Type 0} → Shape V → (V → B) → Cursor → Cursor → Result B ReadError → Type 0
Passes s brief old new (Ok b) = Passed s brief old new b
Passes s brief old new (Err e) = Refuses s old new e

-- the string begins with an element: its tag, its content and what comes behind it
pub record IsFirst (string : List ℕ) (t : ℕ) (content after : List ℕ) : Type 0 where
  pub bytes : string ≡ element t content ++ after
  pub tag : is_tag t ≡ true
  pub byte : t < 256

-- it begins with none
abbrev pub NoFirst : List ℕ → Type 0
NoFirst string = (t : ℕ) (c q : List ℕ) → is_tag t ≡ true → string ≡ element t c ++ q → ⊥

abbrev pub FirstElement : List ℕ → Result (ℕ × Bor (List ℕ) × Bor (List ℕ)) ReadError → Type 0
FirstElement string (Ok h) = IsFirst string h.0 h.1.now h.2.now
FirstElement string (Err e) = NoFirst string

-- the same at a reader, which goes past the element, and stays where there is none
abbrev pub TakesElement : Cursor → Cursor → Result (ℕ × Bor (List ℕ)) ReadError → Type 0
TakesElement old new (Ok h) = IsFirst old.rest h.0 h.1.now new.rest
TakesElement old new (Err e) = NoFirst old.rest × (new.rest ≡ old.rest)

pub record RawTaken (old new : Cursor) (p : List ℕ) : Type 0 where
  pub raw : IsRaw p
  pub rest : old.rest ≡ p ++ new.rest

-- the same, with the whole element
abbrev pub TakesRaw : Cursor → Cursor → Result (Bor (List ℕ)) ReadError → Type 0
TakesRaw old new (Ok p) = RawTaken old new p.now
TakesRaw old new (Err e) = ((p q : List ℕ) → IsRaw p → old.rest ≡ p ++ q → ⊥) × (new.rest ≡ old.rest)

-- the rest is the element's content, and behind the element comes what is after
pub record Entered (t : ℕ) (old inner : Cursor) (after : List ℕ) : Type 0 where
  pub bytes : old.rest ≡ element t inner.rest ++ after
  pub at : inner.at ≡ old.at + header inner.rest
  pub places : inner.places ≡ old.places
  pub headers : inner.headers ≡ old.headers + 1
  pub counts : inner.counts ≡ old.counts
  pub ready : Ready inner

-- no element with the tag stands there, and the reader still stands where it would begin
pub record NotEntered (t : ℕ) (old new : Cursor) : Type 0 where
  pub none : (c q : List ℕ) → old.rest ≡ element t c ++ q → ⊥
  pub at : new.at ≡ old.at

abbrev pub Enters : ℕ → Cursor → Cursor → Result (Bor (List ℕ)) ReadError → Type 0
Enters t old inner (Ok after) = Entered t old inner after.now
Enters t old inner (Err e) = NotEntered t old inner

-- the rest is what comes behind an element, and nothing else has changed
pub record Leaves (end new : Cursor) (after : List ℕ) : Type 0 where
  pub rest : new.rest ≡ after
  pub at : new.at ≡ end.at
  pub headers : new.headers ≡ end.headers
  pub counts : new.counts ≡ end.counts
  pub places : new.places ≡ end.places

-- the reader went past all that was left, and nothing else has changed
pub record PassesRest (old new : Cursor) : Type 0 where
  pub rest : new.rest ≡ []
  pub at : new.at ≡ old.at + length old.rest
  pub headers : new.headers ≡ old.headers
  pub counts : new.counts ≡ old.counts
  pub places : new.places ≡ old.places

-- one byte was gone over, and nothing else has changed
pub record TakesByte (old new : Cursor) (b : ℕ) : Type 0 where
  pub rest : old.rest ≡ b ∷ new.rest
  pub at : new.at ≡ old.at + 1
  pub headers : new.headers ≡ old.headers
  pub counts : new.counts ≡ old.counts
  pub places : new.places ≡ old.places

abbrev pub TakesNext : Cursor → Cursor → Option ℕ → Type 0
TakesNext old new (Some b) = TakesByte old new b
TakesNext old new None = (old.rest ≡ []) × (new ≡ old)

-- where the rest begins, and how many places are carried there
pub record IsSpot (r : Cursor) (spot : Spot) : Type 0 where
  pub start : spot.start ≡ r.at
  pub before : spot.before ≡ carried r.places

-- the reader stands where a spot was taken, and nothing else has changed
pub record GoesBack (old new : Cursor) (spot : Spot) : Type 0 where
  pub rest : new.rest ≡ old.rest
  pub at : new.at ≡ spot.start
  pub headers : new.headers ≡ old.headers
  pub counts : new.counts ≡ old.counts
  pub places : new.places ≡ old.places

-- it stands there or where it did, and nothing else has changed
pub record MayGoBack (old new : Cursor) (spot : Spot) : Type 0 where
  pub rest : new.rest ≡ old.rest
  pub at : (new.at ≡ old.at) ⊎ (new.at ≡ spot.start)
  pub headers : new.headers ≡ old.headers
  pub counts : new.counts ≡ old.counts
  pub places : new.places ≡ old.places

-- a deviation of a kind is booked from a spot on, and nothing else has changed
pub record Marked (old new : Cursor) (kind : Deviation) (spot : Spot) : Type 0 where
  pub rest : new.rest ≡ old.rest
  pub at : new.at ≡ old.at
  pub headers : new.headers ≡ old.headers
  pub counts : new.counts ≡ one_more old.counts (kind_index kind)
  pub places : new.places ≡ put_in spot.before (record { kind = kind; start = spot.start; end = old.at }) old.places

-- it is not, since a place was to be carried and memory was refused; nothing has changed
pub record NotMarked (old new : Cursor) (e : ReadError) : Type 0 where
  pub rest : new.rest ≡ old.rest
  pub at : new.at ≡ old.at
  pub headers : new.headers ≡ old.headers
  pub counts : new.counts ≡ old.counts
  pub places : new.places ≡ old.places
  pub memory : e ≡ OutOfMemory
  pub carries : old.places ≡ None → ⊥

abbrev pub Marks : Cursor → Cursor → Deviation → Spot → Result (Unit {0}) ReadError → Type 0
Marks old new kind spot (Ok u) = Marked old new kind spot
Marks old new kind spot (Err e) = NotMarked old new e
