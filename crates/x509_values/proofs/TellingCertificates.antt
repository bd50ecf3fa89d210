-- What is told of a certificate: its serial number, and an extension of its list, which may be left out.
use Rattle.std.proofs.Common.{◌≡◌, ℕ, List, [], Option, Some, None, refl, sym, ap, ◌∙◌, arith, subst, length, inl, inr}
use Rattle.std.proofs.Common.{◌⊎◌}
use Rattle.x509_der.specs.Element.{element}
use Rattle.x509_der.specs.Fields.{FieldAt}
use Rattle.x509_der.specs.Shape.{Shape, Lawful}
use Rattle.x509_der.specs.Tagged.{tagged, ContentAt}
use Rattle.x509_der.specs.Tally.{Tally}
use Rattle.x509_der.specs.facts.Element.{element_length}
use Rattle.x509_der.specs.laws.Tagged.{tagged_lawful}
use Rattle.picky_asn1_x509.specs.Extensions.{ExtensionFields}
use Rattle.picky_asn1_x509.specs.ExtensionLists.{extensions}
use Rattle.picky_asn1_x509.specs.TbsCertificates.{list_in, extensions_field}
use Rattle.x509_fields.specs.Slices.{Covers}
use Rattle.x509_fields.specs.Spans.{FieldIn, OptionalIn}
use Rattle.x509_fields.specs.declared.span.Span.{Span}
use Rattle.x509_values.specs.Certificates.{ListStands}
use Rattle.x509_values.specs.Elements.{IsInside}
use Rattle.x509_values.specs.Extensions.{FindsIn}
use Rattle.x509_values.specs.Told.{HeldIn}
use Rattle.x509_values.specs.facts.Values.{covered}

-- the span covers the same bytes, however they are written
covers_as : (string p q : List ℕ) (span : Span) → Covers string span.start span.end p → p ≡ q → Covers string span.start span.end q
covers_as string p q span k e = let P : List ℕ → Type 0 = λ x. Covers string span.start span.end x in subst P e k

-- the content of a field under a tag
pub held_content : {V : Type 0} (s : Shape V) (v : V) (span at : Span) (string : List ℕ) (y : Tally) → (f : FieldIn (tagged 2 s) v span string y) → IsInside string span at → HeldIn 2 f.slice span.start at
held_content s v span at string y f inside =
    let i = f.at.spelled in
    let k = inside 2 i.content refl (covers_as string f.slice (element 2 i.content) span (covered (tagged 2 s) v span string y f) i.bytes) in
    record { content = i.content; bytes = i.bytes; start = k.0; end = k.1 ∙ f.end }

list_in_tag : {A : Type 0} → Lawful (extensions {A = A}) → (es : List (ExtensionFields A)) (span list : Span) (string : List ℕ) (y : Tally) → FieldIn extensions_field es span string y → IsInside string span list → FieldIn extensions es list string y
list_in_tag l es span list string y f inside =
    let a : ContentAt 163 extensions es span.start f.slice string y = (tagged_lawful 163 extensions l).parts es f.slice f.at.tally f.at.spelled span.start string y f.at.part in
    let k = inside 163 a.content refl (covers_as string f.slice (element 163 a.content) span (covered extensions_field es span string y f) a.bytes) in
    let P : ℕ → Type 0 = λ n. FieldAt extensions es n a.content string y in
    record {
      slice = a.content;
      at = subst P (sym k.0) a.inner.field;
      end = omega (arith, k.0, k.1, f.end, ap length a.bytes, element_length 163 a.content);
    }

some_list : {A : Type 0} → Lawful (extensions {A = A}) → (identifier : List ℕ) (eo : Option (List (ExtensionFields A))) (span list : Span) (string : List ℕ) (y : Tally) (at : Option Span) → OptionalIn extensions_field eo (Some span) string y → IsInside string span list → FindsIn A string list identifier at → ListStands identifier (list_in eo) string y at
some_list l identifier None span list string y at f inside finds = absurd f
some_list l identifier (Some es) span list string y at f inside finds =
    let g = list_in_tag l es span list string y f inside in
    record { span = list; stands = g; first = finds es y g }

-- by what the places of the fields say
pub list_there : {A : Type 0} → Lawful (extensions {A = A}) → (identifier : List ℕ) (eo : Option (List (ExtensionFields A))) (all : List (ExtensionFields A)) (place : Option Span) (span list : Span) (string : List ℕ) (y : Tally) (at : Option Span) → OptionalIn extensions_field eo place string y → list_in eo ≡ all → place ≡ Some span → IsInside string span list → FindsIn A string list identifier at → ListStands identifier all string y at ⊎ ((all ≡ []) × (at ≡ None))
list_there {A} l identifier eo all place span list string y at f mean is inside finds =
    let P : Option Span → Type 0 = λ o. OptionalIn extensions_field eo o string y in
    let Q : List (ExtensionFields A) → Type 0 = λ es. ListStands identifier es string y at in
    inl (subst Q mean (some_list l identifier eo span list string y at (subst P is f) inside finds))

no_list : {A : Type 0} (eo : Option (List (ExtensionFields A))) (string : List ℕ) (y : Tally) → OptionalIn extensions_field eo None string y → list_in eo ≡ []
no_list None string y f = refl
no_list (Some es) string y f = absurd f

pub list_absent : {A : Type 0} (identifier : List ℕ) (eo : Option (List (ExtensionFields A))) (all : List (ExtensionFields A)) (place : Option Span) (string : List ℕ) (y : Tally) (at : Option Span) → OptionalIn extensions_field eo place string y → list_in eo ≡ all → place ≡ None → at ≡ None → ListStands identifier all string y at ⊎ ((all ≡ []) × (at ≡ None))
list_absent identifier eo all place string y at f mean is none =
    let P : Option Span → Type 0 = λ o. OptionalIn extensions_field eo o string y in
    inr (sym mean ∙ no_list eo string y (subst P is f), none)
