-- The value that a span encodes, read by itself.
use Rattle.std.proofs.Common.{◌≡◌, ℕ, List, [], ◌++◌, Option, Some, None, sym, ap, ◌∙◌, arith, subst}
use Rattle.std.specs.Prelude.{Result, Ok, Err, IfOk, IfErr, unwrap_or}
use Rattle.std.specs.Borrow.{Bor}
use Rattle.x509_der.specs.Calls.{IsWhole, WholeRead, NoValue}
use Rattle.x509_der.specs.Shape.{Shape, Lawful}
use Rattle.x509_der.specs.Tally.{Tally}
use Rattle.x509_der.specs.Types.{ReadError}
use Rattle.x509_der.specs.Types.read_error.{OutOfMemory}
use Rattle.x509_fields.specs.Slices.{Covers, SliceAt}
use Rattle.x509_fields.specs.Spans.{FieldIn}
use Rattle.x509_fields.specs.declared.span.Span.{Span}
use Rattle.x509_fields.specs.facts.Slices.{same_slice, field_slice}
use Rattle.x509_values.specs.Values.{IsValueIn, NoValueIn, Holds}

pub covered : {V : Type 0} (s : Shape V) (v : V) (span : Span) (string : List ℕ) (y : Tally) → (f : FieldIn s v span string y) → Covers string span.start span.end f.slice
covered s v span string y f =
    let p = f.at.part in
    record { before = p.before; after = p.after; bytes = p.bytes; from = p.at; to = omega (arith, f.end, p.at) }

-- the slice that was lent is the field's
pub lent : {V : Type 0} (s : Shape V) (v : V) (span : Span) (string : List ℕ) (y : Tally) (r : Option (Bor (List ℕ))) (empty got : Bor (List ℕ)) → (f : FieldIn s v span string y) → SliceAt string span.start span.end r → got ≡ unwrap_or r empty → got.now ≡ f.slice
lent s v span string y (Some b) empty got f k is =
    ap (λ (x : Bor (List ℕ)). x.now) is ∙ same_slice string b.now f.slice span.start span.end k (covered s v span string y f)
lent s v span string y None empty got f k is = absurd (field_slice s v span string y None f k)

-- one slice encodes one value
pub same_value : {V : Type 0} (s : Shape V) → Lawful s → (v w : V) (p q : List ℕ) (y z : Tally) → s.spelled v p y → s.spelled w q z → p ≡ q → v ≡ w
same_value s l v w p q y z a b e = (l.one v w p q [] [] y z a b (ap (λ x. x ++ []) e) tt tt).value

pub read_value : {V : Type 0} (s : Shape V) → Lawful s → (string : List ℕ) (span : Span) (lending : Option (Bor (List ℕ))) (empty got : Bor (List ℕ)) (r : Result V ReadError) → SliceAt string span.start span.end lending → got ≡ unwrap_or lending empty → WholeRead s got.now r → IfOk r (IsValueIn s string span)
read_value s l string span lending empty got (Ok r) k is w = λ v whole f.
    let e = lent s v span string whole lending empty got f k is in
    same_value s l r v got.now f.slice w.0 f.at.tally w.1.spelled f.at.spelled e
read_value s l string span lending empty got (Err e) k is w = tt

pub refused_value : {V : Type 0} (s : Shape V) → (string : List ℕ) (span : Span) (lending : Option (Bor (List ℕ))) (empty got : Bor (List ℕ)) (r : Result V ReadError) → SliceAt string span.start span.end lending → got ≡ unwrap_or lending empty → WholeRead s got.now r → IfErr r (λ e. e ≡ OutOfMemory → ⊥) → IfErr r (λ e. NoValueIn s string span)
refused_value s string span lending empty got (Ok r) k is w n = tt
refused_value s string span lending empty got (Err r) k is w n = λ v whole f.
    let e = lent s v span string whole lending empty got f k is in
    let P : List ℕ → Type 0 = λ x. s.spelled v x f.at.tally in
    w n v f.at.tally (subst P (sym e) f.at.spelled)

-- the value of a field of what was found
pub held_value : {V W : Type 0} (s : Shape V) (t : Shape W) (of : V → W) (bytes : List ℕ) (span : Span) (v : V) (y : Tally) (r : Result W ReadError) → IsWhole s bytes v y → FieldIn t (of v) span bytes y → IfOk r (IsValueIn t bytes span) → IfErr r (λ e. NoValueIn t bytes span) → IfOk r (Holds s of bytes) × IfErr r (NoValue s bytes)
held_value s t of bytes span v y (Ok r) w f ok err = (record { value = v; tally = y; whole = w; is = ok (of v) y f }, tt)
held_value s t of bytes span v y (Err r) w f ok err = (tt, absurd (err (of v) y f))
