-- Types whose values are what those of a base shape mean, some with one or two marks over the whole.
use Rattle.std.proofs.Common.{List, [], ◌∷◌, Option, Some, None, Result, Ok, Err, ◌≡◌, ℕ, ◌+◌, ◌≤◌, length}
use Rattle.x509_der_parts.specs.declared.deviation.Deviation.{Deviation}
use Rattle.x509_der_parts.specs.declared.errors.ReadError.{ReadError}
use Rattle.x509_der_parts.specs.declared.errors.ReadError.TheVariants.{OutOfMemory}
use Rattle.x509_der_parts.specs.declared.viewed.WholeDeviations.{WholeDeviations}
use Rattle.x509_der_parts.specs.declared.viewed.WholeDeviations.TheVariants.{Nothing, One, Two}
use Rattle.x509_der_parts.specs.Shape.{Shape}
use Rattle.x509_der_parts.specs.MarkOrder.{Deep, Ascending}
use Rattle.x509_der_parts.specs.Tally.{Tally, marked}
use Rattle.x509_der_parts.specs.Fields.{Inner}

-- the kinds that were found
abbrev pub kinds_in : WholeDeviations → List Deviation
kinds_in Nothing = []
kinds_in (One k) = k ∷ []
kinds_in (Two k l) = k ∷ l ∷ []

abbrev pub if_found : Option Deviation → List Deviation
if_found None = []
if_found (Some k) = k ∷ []

-- a value, and what was found
abbrev pub meant : {V : Type 0} → Result (V × WholeDeviations) ReadError → Option (V × List Deviation)
meant (Err e) = None
meant (Ok m) = Some (m.0, kinds_in m.1)

-- how the values of a type are made of those of a base
pub record Meaning (B V : Type 0) : Type 1 where
  -- what a base value means, and the kinds of the marks over the whole; or nothing
  pub of : B → Option (V × List Deviation)
  -- the base value that is written
  pub back : V → B
  -- the values of the type
  pub valid : V → Type 0
  -- the values that are read back as themselves
  pub readable : V → Type 0

-- the base value that is spelled there and means the value, with its parts; the marks over the whole aren't theirs
pub record BaseAt {B V : Type 0} (of : B → Option (V × List Deviation)) (s : Shape B) (v : V) (n : ℕ) (slice string : List ℕ) (whole : Tally) : Type 0 where
  pub base : B
  pub kinds : List Deviation
  pub part : Tally
  pub spelled : s.spelled base slice part
  pub means : of base ≡ Some (v, kinds)
  pub parts : s.parts base n slice string whole

pub record Viewed {B V : Type 0} (of : B → Option (V × List Deviation)) (s : Shape B) (v : V) (p : List ℕ) (y : Tally) : Type 0 where
  pub base : B
  pub kinds : List Deviation
  pub part : Tally
  pub spelled : s.spelled base p part
  pub means : of base ≡ Some (v, kinds)
  pub tally : y ≡ marked kinds (length p) part

-- of says what a base value means, and the kinds of its marks; back is the base value that is written
abbrev pub viewed : {B V : Type 0} → (B → Option (V × List Deviation)) → (V → B) → (V → Type 0) → (V → Type 0) → Shape B → Shape V
viewed of back valid readable s = record {
  spelled = Viewed of s;
  strict = λ v. s.strict (back v);
  valid = valid;
  readable = readable;
  starts = s.starts;
  avoids = s.avoids;
  min_headers = s.min_headers;
  frugal = s.frugal;
  parts = BaseAt of s;
}

-- the values as they are spelled
abbrev pub seen : {B V : Type 0} → Meaning B V → Shape B → Shape V
seen m s = viewed m.of m.back m.valid m.readable s

pub record IsView {B V : Type 0} (of : B → Option (V × List Deviation)) (back : V → B) (valid : V → Type 0) (readable : V → Type 0) (s : Shape B) : Type 0 where
  pub written : (v : V) → valid v → readable v → (of (back v) ≡ Some (v, [])) × s.valid (back v) × s.readable (back v)
  pub clean : (b : B) (v : V) → of b ≡ Some (v, []) → s.valid b → s.readable b → b ≡ back v
  pub kept : (b : B) (v : V) (ks : List Deviation) → of b ≡ Some (v, ks) → s.valid b → valid v
  pub read : (b : B) (v : V) (ks : List Deviation) → of b ≡ Some (v, ks) → s.readable b → readable v
  pub few : (b : B) (v : V) (ks : List Deviation) (p : List ℕ) (y : Tally) → of b ≡ Some (v, ks) → s.spelled b p y → length ks + length y.marks ≤ y.headers
  pub deep : (b : B) (p : List ℕ) (y : Tally) → s.spelled b p y → (1 ≤ length p) × Deep y.marks
  pub inner : Inner s
  pub ascending : (b : B) (v : V) (ks : List Deviation) → of b ≡ Some (v, ks) → Ascending ks

abbrev pub IsSeen : {B V : Type 0} → Meaning B V → Shape B → Type 0
IsSeen m s = IsView m.of m.back m.valid m.readable s

-- what is said of fields by what was kept of them: the deviations over the whole and what is kept of the value; or that they mean nothing
abbrev pub Judged : {V B : Type 0} → (V → B) → Option (V × List Deviation) → Result (B × WholeDeviations) ReadError → Type 0
Judged {V} kept o (Ok w) = (v : V) × (o ≡ Some (v, kinds_in w.1)) × (kept v ≡ w.0)
Judged kept o (Err e) = (o ≡ None) × (e ≡ OutOfMemory → ⊥)
