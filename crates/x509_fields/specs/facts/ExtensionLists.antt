-- A walk over the extensions of a list.
use Rattle.std.proofs.Common.{◌≡◌, ℕ, ◌+◌, List, [], Option, Some, None, refl, sym, ap, ◌∙◌, append-nil, lit<, arith, subst}
use Rattle.x509_der.specs.Element.{IsRaw, element, header}
use Rattle.x509_der.specs.Items.{ItemsAt}
use Rattle.x509_der.specs.Shape.{Shape, Lawful}
use Rattle.x509_der.specs.Tagged.{ContentAt}
use Rattle.x509_der.specs.Tally.{Tally}
use Rattle.x509_der.specs.laws.Tagged.{tagged_lawful}
use Rattle.picky_asn1_x509.specs.Extensions.{ExtensionFields, extension}
use Rattle.picky_asn1_x509.specs.ExtensionLists.{extensions}
use Rattle.picky_asn1_x509.specs.TbsCertificates.{list_in, extensions_field}
use Rattle.picky_asn1_x509.specs.declared.certificate.Certificate.{Certificate}
use Rattle.x509_fields.specs.Certificates.{CertificateIn}
use Rattle.x509_fields.specs.Found.{CarriedIn, WalksTagged}
use Rattle.x509_fields.specs.Slices.{Covers}
use Rattle.x509_fields.specs.Spans.{FieldIn, OptionalIn}
use Rattle.x509_fields.specs.Walks.{Walk, Inside}
use Rattle.x509_fields.specs.declared.certificate.CertificateFields.{CertificateFields}
use Rattle.x509_fields.specs.declared.span.Span.{Span}
use Rattle.x509_fields.specs.facts.Fields.{element_raw}

covered : {V : Type 0} (s : Shape V) (v : V) (span : Span) (string : List ℕ) (y : Tally) → (f : FieldIn s v span string y) → Covers string span.start span.end f.slice
covered s v span string y f =
    let p = f.at.part in
    record { before = p.before; after = p.after; bytes = p.bytes; from = p.at; to = omega (arith, f.end, p.at) }

pub moved_items : {V : Type 0} (s : Shape V) (vs : List V) (n m : ℕ) (p q string : List ℕ) (y : Tally) → ItemsAt s string y vs n p → m ≡ n → q ≡ p → ItemsAt s string y vs m q
moved_items s vs n m p q string y a at rest =
    let P : ℕ → Type 0 = λ k. ItemsAt s string y vs k p in
    let Q : List ℕ → Type 0 = λ r. ItemsAt s string y vs m r in
    subst Q (sym rest) (subst P (sym at) a)

-- what the element in front has in it
step_in : (t : ℕ) (c : List ℕ) (outer inner : Walk) → Inside outer inner → outer.rest ≡ element t c → IsRaw (element t c) → (inner.rest ≡ c) × (inner.at ≡ outer.at + header c)
step_in t c outer inner i rest raw = i.content t c [] raw (rest ∙ sym (append-nil (element t c)))

-- a walk over a span, whose walk is over the content of the tag, and then of the list
pub record ListWalk (string : List ℕ) (span : Span) (inner : Walk) : Type 0 where
  pub w : Walk
  pub w1 : Walk
  pub over : (slice : List ℕ) → Covers string span.start span.end slice → (w.rest ≡ slice) × (w.at ≡ span.start)
  pub tag : Inside w w1
  pub list : Inside w1 inner

-- the walk is where the list's content is, and over its items
pub record Told {A : Type 0} (es : Option (List (ExtensionFields A))) (at : Option Span) (string : List ℕ) (y : Tally) (inner : Walk) : Type 0 where
  pub list : WalksTagged at string inner
  pub items : ItemsAt extension string y (list_in es) inner.at inner.rest

some_items : {A : Type 0} → Lawful (extensions {A = A}) → (es : Option (List (ExtensionFields A))) (span : Span) (string : List ℕ) (y : Tally) (inner : Walk) → OptionalIn extensions_field es (Some span) string y → ListWalk string span inner → Told es (Some span) string y inner
some_items l None span string y inner f k = absurd f
some_items l (Some es) span string y inner f k =
    let here = covered extensions_field es span string y f in
    let w = k.over f.slice here in
    let a : ContentAt 163 extensions es span.start f.slice string y = (tagged_lawful 163 extensions l).parts es f.slice f.at.tally f.at.spelled span.start string y f.at.part in
    let b = a.inner.parts in
    let w1 = step_in 163 a.content k.w k.w1 k.tag (w.0 ∙ a.bytes) (element_raw 163 a.content (element 163 a.content) refl (lit< tt) refl) in
    let w2 = step_in 48 b.content k.w1 inner k.list (w1.0 ∙ b.bytes) (element_raw 48 b.content (element 48 b.content) refl (lit< tt) refl) in
    let list : a.content ≡ element 48 inner.rest = b.bytes ∙ ap (element 48) (sym w2.0) in
    let C : List ℕ → Type 0 = λ x. Covers string span.start span.end x in
    record {
      list = (subst C (a.bytes ∙ ap (element 163) list) here, omega (arith, w2.1, w1.1, w.1, ap header list, ap header w2.0));
      items = moved_items extension es (span.start + header a.content + header b.content) inner.at b.content inner.rest string y b.inner.parts (omega (arith, w2.1, w1.1, w.1)) w2.0;
    }

no_items : {A : Type 0} (es : Option (List (ExtensionFields A))) (string : List ℕ) (y : Tally) (inner : Walk) → OptionalIn extensions_field es None string y → inner.rest ≡ [] → inner.at ≡ 0 → Told es None string y inner
no_items None string y inner f rest at = record { list = (rest, at); items = rest }
no_items (Some es) string y inner f rest at = absurd f

-- the same by what the fields' places say
pub items_there : {A : Type 0} → Lawful (extensions {A = A}) → (es : Option (List (ExtensionFields A))) (at : Option Span) (span : Span) (string : List ℕ) (y : Tally) (inner : Walk) → OptionalIn extensions_field es at string y → at ≡ Some span → ListWalk string span inner → Told es at string y inner
items_there l es at span string y inner f is k =
    let P : Option Span → Type 0 = λ o. OptionalIn extensions_field es o string y in
    let Q : Option Span → Type 0 = λ o. Told es o string y inner in
    subst Q (sym is) (some_items l es span string y inner (subst P is f) k)

pub items_absent : {A : Type 0} (es : Option (List (ExtensionFields A))) (at : Option Span) (string : List ℕ) (y : Tally) (inner : Walk) → OptionalIn extensions_field es at string y → at ≡ None → inner.rest ≡ [] → inner.at ≡ 0 → Told es at string y inner
items_absent es at string y inner f is rest place =
    let P : Option Span → Type 0 = λ o. OptionalIn extensions_field es o string y in
    let Q : Option Span → Type 0 = λ o. Told es o string y inner in
    subst Q (sym is) (no_items es string y inner (subst P is f) rest place)

-- of a certificate, whose list may be left out
pub carried : {A : Type 0} (v : Certificate A) (places : CertificateFields) (string : List ℕ) (y : Tally) (inner : Walk) → (r : CertificateIn v places string y) → Told r.fields.extensions places.fields.extensions string y inner → CarriedIn v inner string y
carried {A} v places string y inner r t =
    let P : List (ExtensionFields A) → Type 0 = λ l. ItemsAt extension string y l inner.at inner.rest in
    record { places = places; stand = r; list = t.list; items = subst P r.fields.extensions_mean t.items }
