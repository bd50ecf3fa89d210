-- What is told of a list whose items stand one behind another (X.690, 8.10).
use Rattle.std.specs.Prelude.{ℕ, ◌+◌, List}
use Rattle.x509_der.specs.Calls.{IsWhole}
use Rattle.x509_der.specs.Element.{header}
use Rattle.x509_der.specs.Items.{items}
use Rattle.x509_der.specs.Shape.{Shape}
use Rattle.x509_der.specs.Tagged.{tagged, ContentAt}
use Rattle.x509_der.specs.Tally.{Tally}
use Rattle.x509_values.specs.Told.{EachTold, Fills}
use Rattle.x509_flat.specs.Values.{FrontFilled}
use Rattle.x509_flat.specs.declared.status.Status.{Status}

-- what is told of an item that stands in the slice of a string, behind so many bytes
abbrev pub Telling : (V P : Type 0) → Type 1
Telling V P = List ℕ → Tally → V → ℕ → List ℕ → P → Type 0

-- the list stands in the slice of a string, under a tag, and each of its items is told, in order and none left out
pub record ListTold {V P : Type 0} (t : ℕ) (s : Shape V) (tells : Telling V P) (v : List V) (n : ℕ) (slice string : List ℕ) (whole : Tally) (places : List P) : Type 0 where
  pub list : ContentAt t (items s) v n slice string whole
  pub each : EachTold s string whole (tells string whole) v (n + header list.content) list.content list.inner.parts places

-- the list that the bytes encode, which stands from their first byte on
pub record ListHeld {V P : Type 0} (s : Shape V) (tells : Telling V P) (bytes : List ℕ) (old new : List P) (count : ℕ) : Type 0 where
  pub value : List V
  pub tally : Tally
  pub whole : IsWhole (tagged 48 (items s)) bytes value tally
  pub told : Fills (ListTold 48 s tells value 0 bytes bytes tally) old new count

abbrev pub ListFills : {V P : Type 0} → Shape V → Telling V P → List ℕ → List P → List P → Status → ℕ → Type 0
ListFills s tells bytes old new status count = FrontFilled (tagged 48 (items s)) bytes (ListHeld s tells bytes old new) old new status count
