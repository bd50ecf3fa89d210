-- What is told of the general names of a list (RFC 5280, 4.2.1.6).
use Rattle.std.specs.Prelude.{ℕ, ◌+◌, List}
use Rattle.x509_der.specs.Element.{header}
use Rattle.x509_der.specs.Fields.{FieldAt}
use Rattle.x509_der.specs.Items.{items}
use Rattle.x509_der.specs.Shape.{Shape}
use Rattle.x509_der.specs.Tagged.{tagged, ContentAt}
use Rattle.x509_der.specs.Tally.{Tally}
use Rattle.x509_names.specs.GeneralNames.{general_name}
use Rattle.x509_names.specs.declared.general_name.GeneralName.{GeneralName}
use Rattle.x509_fields.specs.Spans.{FieldIn}
use Rattle.x509_fields.specs.declared.span.Span.{Span}
use Rattle.x509_values.specs.Told.{HeldIn, EachTold, Fills}
use Rattle.x509_values.specs.declared.general_names.GeneralNamePlace.{GeneralNamePlace}

-- GeneralNames ::= SEQUENCE OF GeneralName
abbrev pub general_names : {A : Type 0} → Shape (List (GeneralName A))
general_names = tagged 48 (items general_name)

-- of a general name in the slice, which stands behind so many bytes: its tag, and what stands under it
pub record GeneralNameTold {A : Type 0} (string : List ℕ) (whole : Tally) (v : GeneralName A) (n : ℕ) (slice : List ℕ) (at : GeneralNamePlace) : Type 0 where
  pub here : FieldAt general_name v n slice string whole
  pub content : HeldIn at.tag slice n at.content

-- the list stands in the slice of a string, and each of its names is told, in order and none left out
pub record NamesTold {A : Type 0} (v : List (GeneralName A)) (n : ℕ) (slice string : List ℕ) (whole : Tally) (places : List GeneralNamePlace) : Type 0 where
  pub list : ContentAt 48 (items general_name) v n slice string whole
  pub names : EachTold general_name string whole (GeneralNameTold string whole) v (n + header list.content) list.content list.inner.parts places

-- whatever list the span of the string encodes, its names are told
abbrev pub NamesWithin : (A : Type 0) → List ℕ → Span → List GeneralNamePlace → List GeneralNamePlace → ℕ → Type 0
NamesWithin A string span old new count =
    (v : List (GeneralName A)) (whole : Tally) (f : FieldIn general_names v span string whole) → Fills (NamesTold v span.start f.slice string whole) old new count
