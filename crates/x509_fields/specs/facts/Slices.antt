-- A string is cut into what stands before a slice, the slice, and what stands behind it.
use Rattle.std.proofs.Common.{◌≡◌, ℕ, ◌≤◌, List, ◌++◌, length, take, drop, sym, ap, ◌∙◌, arith, subst, append_assoc, length-append, Option, Some, None}
use Rattle.std.proofs.lemmas.List.{take-append-drop, length-take-le}
use Rattle.std.specs.Borrow.{Bor}
use Rattle.std.specs.Prelude.{IsSomeAnd}
use Rattle.x509_der.specs.Shape.{Shape}
use Rattle.x509_der.specs.Tally.{Tally}
use Rattle.x509_der.specs.facts.Lists.{same_front}
use Rattle.x509_fields.specs.Slices.{Covers, SliceAt}
use Rattle.x509_fields.specs.Spans.{FieldIn}
use Rattle.x509_fields.specs.declared.span.Span.{Span}

pub cut : (string slice : List ℕ) (start end : ℕ) → start ≤ end → end ≤ length string → slice ≡ drop start (take end string) → Covers string start end slice
cut string slice start end order within is =
    let front : length (take end string) ≡ end = length-take-le end string within in
    let before : length (take start (take end string)) ≡ start = length-take-le start (take end string) (omega (arith, front, order)) in
    let whole : take end string ≡ take start (take end string) ++ slice = sym (take-append-drop start (take end string)) ∙ ap (λ x. take start (take end string) ++ x) (sym is) in
    record {
      before = take start (take end string);
      after = drop end string;
      bytes = sym (take-append-drop end string) ∙ ap (λ x. x ++ drop end string) whole ∙ append_assoc (take start (take end string)) slice (drop end string);
      from = sym before;
      to = omega (arith, front, before, ap length whole, length-append (take start (take end string)) slice);
    }

-- what is covered lies in the string
pub covers_lies : (string slice : List ℕ) (start end : ℕ) → Covers string start end slice → (start ≤ end) × (end ≤ length string)
covers_lies string slice start end k = (omega (arith, k.from, k.to), omega (arith, k.to, ap length k.bytes, length-append k.before (slice ++ k.after), length-append slice k.after))

-- a span covers one slice
pub same_slice : (string slice other : List ℕ) (start end : ℕ) → Covers string start end slice → Covers string start end other → slice ≡ other
same_slice string slice other start end k f =
    let same = same_front k.before f.before (slice ++ k.after) (other ++ f.after) (sym k.from ∙ f.from) (sym k.bytes ∙ f.bytes) in
    (same_front slice other k.after f.after (omega (arith, k.to, k.from, f.to, f.from)) same.1).0

-- where a field stands, its span covers the bytes that encode it
pub field_slice : {V : Type 0} (s : Shape V) (v : V) (span : Span) (string : List ℕ) (y : Tally) (r : Option (Bor (List ℕ))) → FieldIn s v span string y → SliceAt string span.start span.end r → IsSomeAnd r (λ slice. (z : Tally) × s.spelled v slice.now z)
field_slice s v span string y (Some slice) f k =
    let p = f.at.part in
    let same = same_front k.before p.before (slice.now ++ k.after) (f.slice ++ p.after) (sym k.from ∙ p.at) (sym k.bytes ∙ p.bytes) in
    let back = same_front slice.now f.slice k.after p.after (omega (arith, k.to, k.from, f.end)) same.1 in
    let P : List ℕ → Type 0 = λ x. s.spelled v x f.at.tally in
    (f.at.tally, subst P (sym back.0) f.at.spelled)
field_slice s v span string y None f k =
    let p = f.at.part in
    absurd (k (omega (arith, f.end)) (omega (arith, f.end, p.at, ap length p.bytes, length-append p.before (f.slice ++ p.after), length-append f.slice p.after)))
