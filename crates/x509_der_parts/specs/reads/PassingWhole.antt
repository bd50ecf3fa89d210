-- Going past a whole input.
use Rattle.std.proofs.Common.{◌≡◌, ℕ, List, [], subst, sym, ◌∙◌, Some, None}
use Rattle.std.specs.Prelude.{Result, Ok, Err, replicate}
use Rattle.x509_der_parts.specs.declared.errors.ReadError.{ReadError}
use Rattle.x509_der_parts.specs.declared.errors.Refused.{Refused}
use Rattle.x509_der_parts.specs.Tally.{Tally, Mark}
use Rattle.x509_der_parts.specs.Shape.{Shape, Lawful}
use Rattle.x509_der_parts.specs.Calls.{IsWhole, CheckedRead, ExplainedCheck, MeteredCheck, LocatedCheck, PassesAll}
use Rattle.x509_der_parts.specs.Reading.{Cursor, thrifty}
use Rattle.x509_der_parts.specs.reads.Passing.{thrifty_lawful}
use Rattle.x509_der_parts.specs.reads.WholeInput.{counted_whole, located_whole, metered_whole, metered_none, got_to}

thick_whole : {V : Type 0} (s : Shape V) (string : List ℕ) (v : V) (y : Tally) → IsWhole (thrifty s) string v y → IsWhole s string v y
thick_whole s string v y w = record { spelled = w.spelled; strict = w.strict }

-- the counts, or that there is no value
pub checked_whole : {V : Type 0} (s : Shape V) (old new : Cursor) (string counts : List ℕ) → old.rest ≡ string → old.counts ≡ replicate 10 0 → counts ≡ new.counts → PassesAll (thrifty s) old new (Ok tt) → CheckedRead s string (Ok counts)
checked_whole s old new string counts f k c a =
    let w = counted_whole (thrifty s) old new string counts a.0 f k c a.1 in
    (a.0, record { tally = w.tally; whole = thick_whole s string a.0 w.tally w.whole; counted = w.counted; total = w.total })

pub not_checked : {V : Type 0} (s : Shape V) (old new : Cursor) (string : List ℕ) (e : ReadError) → old.rest ≡ string → old.places ≡ None → PassesAll (thrifty s) old new (Err e) → CheckedRead s string (Err e)
not_checked s old new string e f p a =
    let m = a.spares tt p in
    (m, λ v y i. let P : List ℕ → Type 0 = λ x. s.spelled v x y in a.none m v y (subst P (sym f) i))

pub metered_check : {V : Type 0} (s : Shape V) → Lawful s → (old new : Cursor) (string counts : List ℕ) (headers : ℕ) → old.rest ≡ string → old.headers ≡ 0 → old.counts ≡ replicate 10 0 → counts ≡ new.counts → headers ≡ new.headers → PassesAll (thrifty s) old new (Ok tt) → MeteredCheck s string (Ok counts) headers
unfolding checked_whole
metered_check s l old new string counts headers f z k c h a =
    let w = checked_whole s old new string counts f k c a in
    (a.0, w.1, metered_whole (thrifty s) (thrifty_lawful s l) old new string counts headers a.0 f z k c h a.1)

pub not_metered : {V : Type 0} (s : Shape V) (old new : Cursor) (string : List ℕ) (e : ReadError) (at headers : ℕ) → old.rest ≡ string → old.places ≡ None → old.at ≡ 0 → at ≡ new.at → old.headers ≡ 0 → headers ≡ new.headers → PassesAll (thrifty s) old new (Err e) → MeteredCheck s string (Err (record { error = e; at = at })) headers
not_metered s old new string e at headers f p z i y h a =
    let c = not_checked s old new string e f p a in
    let g = got_to (thrifty s) old new string e f z a in
    (c, record { within = rw i g.within; outside = λ o. i ∙ g.outside o; behind = λ m v p q y i2 b o. let k = g.behind m v p q y i2 b o in (k.0, i ∙ k.1) }, metered_none (thrifty s) old new string headers e f y h a c.0)

-- without the headers, and without the place
pub explained_check : {V : Type 0} (s : Shape V) (string : List ℕ) (r : Result (List ℕ) Refused) (headers : ℕ) → MeteredCheck s string r headers → ExplainedCheck s string r
explained_check s string (Ok counts) headers c = (c.0, c.1)
explained_check s string (Err r) headers c = (c.0, c.1)

pub places_whole : {V : Type 0} (s : Shape V) (l : Lawful s) (old new : Cursor) (string : List ℕ) (places : List Mark) → old.rest ≡ string → old.at ≡ 0 → old.places ≡ Some [] → new.places ≡ Some places → PassesAll (thrifty s) old new (Ok tt) → LocatedCheck s string (Ok places)
places_whole s l old new string places f z o n a =
    let w = located_whole (thrifty s) (thrifty_lawful s l) old new string a.0 places f z o n a.1 in
    (a.0, record { tally = w.tally; whole = thick_whole s string a.0 w.tally w.whole; marks = w.marks; placing = w.placing })

pub no_places : {V : Type 0} (s : Shape V) (old new : Cursor) (string : List ℕ) (e : ReadError) → old.rest ≡ string → PassesAll (thrifty s) old new (Err e) → LocatedCheck s string (Err e)
no_places s old new string e f a = (
  λ m v y i. let P : List ℕ → Type 0 = λ x. s.spelled v x y in a.none m v y (subst P (sym f) i),
  λ v y i c. let P : List ℕ → Type 0 = λ x. s.spelled v x y in a.marked tt v y (subst P (sym f) i) c,
)
