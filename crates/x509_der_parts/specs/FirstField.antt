-- A whole SEQUENCE with the slice of its first field, and the deviations inside that slice and outside of it.
use Rattle.std.proofs.Common.{◌≡◌, ◌↔◌, ℕ, List, ◌++◌, sum}
use Rattle.std.specs.Prelude.{Result, Ok, Err}
use Rattle.x509_der_parts.specs.declared.errors.ReadError.{ReadError}
use Rattle.x509_der_parts.specs.Deviations.{Together}
use Rattle.x509_der_parts.specs.Element.{element, header}
use Rattle.x509_der_parts.specs.Tally.{Tally, counts_of}
use Rattle.x509_der_parts.specs.Shape.{Shape}
use Rattle.x509_der_parts.specs.Parts.{IsPart}
use Rattle.x509_der_parts.specs.Tagged.{tagged}
use Rattle.x509_der_parts.specs.Join.{join}
use Rattle.x509_der_parts.specs.Structure.{structure}
use Rattle.x509_der_parts.specs.Calls.{IsWhole}
use Rattle.x509_der_parts.specs.Reading.{Cursor, Accepts, Refuses}

-- the first field, and then the others
abbrev pub both_fields : {V W : Type 0} → Shape V → Shape W → Shape (V × W)
both_fields a b = join (λ j. j.0) (λ j. j.1) a b

-- SEQUENCE { the first field, the others }, whose values are seen as T
abbrev pub in_sequence : {T V W : Type 0} → (T → V × W) → Shape V → Shape W → Shape T
in_sequence view a b = structure view (tagged 48 (both_fields a b))

-- the slice spells the value's first field and stands right behind the header, and the others are spelled behind it; it holds the deviations that are counted inside, and the others of the whole are counted outside
pub record FirstPart {T V W : Type 0} (view : T → V × W) (a : Shape V) (b : Shape W) (string : List ℕ) (value : T) (slice counts others : List ℕ) : Type 0 where
  pub tally : Tally
  pub whole : IsWhole (in_sequence view a b) string value tally
  pub after : List ℕ
  pub bytes : string ≡ element 48 (slice ++ after)
  pub part : Tally
  pub spelled : a.spelled (view value).0 slice part
  pub rest : Tally
  pub behind : b.spelled (view value).1 after rest
  pub stands : IsPart string tally (header (slice ++ after)) slice part
  pub strict : (slice ≡ a.strict (view value).0) ↔ (sum counts ≡ 0)
  pub counted : counts ≡ counts_of part.marks
  pub sums : Together counts others (counts_of tally.marks)

-- so many bytes stand before the content of the SEQUENCE that the string is
abbrev pub StartsContent : List ℕ → ℕ → Type 0
StartsContent string start = (content : List ℕ) → string ≡ element 48 content → start ≡ header content

-- both fields were read, the first one up to a place, with what was counted there
pub record BothTaken {V W : Type 0} (a : Shape V) (b : Shape W) (old new : Cursor) (v : V) (w : W) (place : ℕ) (counts : List ℕ) : Type 0 where
  pub mid : Cursor
  pub first : Accepts a old mid v
  pub second : Accepts b mid new w
  pub at : place ≡ mid.at
  pub counted : counts ≡ mid.counts

abbrev pub TakesBoth : {V W : Type 0} → Shape V → Shape W → Cursor → Cursor → Result ((V × W) × ℕ × List ℕ) ReadError → Type 0
TakesBoth a b old new (Ok r) = BothTaken a b old new r.0.0 r.0.1 r.1 r.2
TakesBoth a b old new (Err e) = Refuses (both_fields a b) old new e

-- the same, of values that were gone past
abbrev pub PassesBoth : {V W : Type 0} → Shape V → Shape W → Cursor → Cursor → Result (ℕ × List ℕ) ReadError → Type 0
PassesBoth {V} {W} a b old new (Ok r) = (v : V) × (w : W) × BothTaken a b old new v w r.0 r.1
PassesBoth a b old new (Err e) = Refuses (both_fields a b) old new e
