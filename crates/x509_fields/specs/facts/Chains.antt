-- A walk that goes over all of a SEQUENCE tells its fields one behind another.
use Rattle.std.proofs.Common.{◌≡◌, ℕ, ◌+◌, List, [], ◌∷◌, ◌++◌, length, refl, sym, ap, ◌∙◌, subst, arith, append-nil, Option, Some, None}
use Rattle.x509_der.specs.Element.{element, header}
use Rattle.x509_der.specs.Parts.{IsPart}
use Rattle.x509_der.specs.Tally.{Tally}
use Rattle.x509_der.specs.facts.Element.{element_length}
use Rattle.x509_fields.specs.Slices.{Covers}
use Rattle.x509_fields.specs.Spans.{Chain, Fill, all_of}
use Rattle.x509_fields.specs.Walks.{Walk, Steps, StepsIf, StepsUnless, ToEnd}
use Rattle.x509_fields.specs.declared.span.Span.{Span}

-- from one walk to another, which told these fields
pub record Passes (old new : Walk) (fields : List (Option Span)) : Type 0 where
  pub chain : Chain old.at fields new.at
  pub ends : new.at + length new.rest ≡ old.at + length old.rest

pub passes_none : (w : Walk) → Passes w w []
passes_none w = record { chain = refl; ends = refl }

pub passes_one : (old middle new : Walk) (span : Span) (more : List (Option Span)) → Steps old middle span → Passes middle new more → Passes old new (Some span ∷ more)
passes_one old middle new span more s p =
    let P : ℕ → Type 0 = λ n. Chain n more new.at in
    record { chain = (s.start, subst P (sym s.end) p.chain); ends = p.ends ∙ s.goes.ends }

passes_no_more : (old middle new : Walk) (more : List (Option Span)) → middle ≡ old → Passes middle new more → Passes old new (None ∷ more)
passes_no_more old middle new more same p =
    let P : Walk → Type 0 = λ w. Passes w new more in
    let q = subst P same p in
    record { chain = q.chain; ends = q.ends }

pub passes_if : (tag : ℕ) (old middle new : Walk) (span : Option Span) (more : List (Option Span)) → StepsIf tag old middle span → Passes middle new more → Passes old new (span ∷ more)
passes_if tag old middle new None more s p = passes_no_more old middle new more s.0 p
passes_if tag old middle new (Some span) more s p = passes_one old middle new span more s.0 p

pub passes_unless : (tag : ℕ) (old middle new : Walk) (span : Option Span) (more : List (Option Span)) → StepsUnless tag old middle span → Passes middle new more → Passes old new (span ∷ more)
passes_unless tag old middle new None more s p = passes_no_more old middle new more s.0 p
passes_unless tag old middle new (Some span) more s p = passes_one old middle new span more s.0 p

pub to_end : (old new : Walk) (fields : List (Option Span)) → Passes old new fields → new.rest ≡ [] → ToEnd old fields
to_end old new fields p over =
    let P : ℕ → Type 0 = λ m. Chain old.at fields m in
    subst P (omega (arith, p.ends, ap length over)) p.chain

pub fill : (string content : List ℕ) (span : Span) (fields : List (Option Span)) (w : Walk) → Covers string span.start span.end (element 48 content) → w.rest ≡ content → w.at ≡ span.start + header content → ToEnd w fields → Fill string span fields
fill string content span fields w covers rest at all =
    let size : w.at + length w.rest ≡ span.end = omega (arith, at, ap length rest, covers.from, covers.to, element_length 48 content) in
    let P : ℕ → Type 0 = λ n. Chain n fields span.end in
    let Q : ℕ → Type 0 = λ m. Chain w.at fields m in
    record { content = content; sequence = covers; chain = subst P at (subst Q size all) }

-- of a whole string that is one SEQUENCE
pub fill_all : (string content : List ℕ) (fields : List (Option Span)) (w : Walk) → string ≡ element 48 content → w.rest ≡ content → w.at ≡ header content → ToEnd w fields → Fill string (all_of string) fields
fill_all string content fields w bytes rest at all =
    fill string content (all_of string) fields w (record {
      before = [];
      after = [];
      bytes = bytes ∙ sym (append-nil (element 48 content));
      from = refl;
      to = omega (arith, ap length bytes);
    }) rest (omega (arith, at)) all

-- of a SEQUENCE that is a part of a string
pub fill_part : (string slice content : List ℕ) (whole part : Tally) (n : ℕ) (span : Span) (fields : List (Option Span)) (w : Walk) → IsPart string whole n slice part → span.start ≡ n → span.end ≡ n + length slice → slice ≡ element 48 content → w.rest ≡ content → w.at ≡ n + header content → ToEnd w fields → Fill string span fields
fill_part string slice content whole part n span fields w p start end bytes rest at all =
    fill string content span fields w (record {
      before = p.before;
      after = p.after;
      bytes = p.bytes ∙ ap (λ (x : List ℕ). p.before ++ (x ++ p.after)) bytes;
      from = start ∙ p.at;
      to = omega (arith, end, p.at, ap length bytes);
    }) rest (omega (arith, at, start)) all
