-- The fields of a distribution point, which are walked over.
use Rattle.std.proofs.Common.{◌≡◌, ◌==◌, true, false, ℕ, ◌+◌, ◌<◌, List, [], ◌++◌, length, Option, Some, None, refl, sym, ap, ◌∙◌, arith, inl, inr, append-nil, eq-eqb, true≢false}
use Rattle.x509_der.specs.BitString.{bit_strings}
use Rattle.x509_der.specs.Element.{element, header, is_tag}
use Rattle.x509_der.specs.Fields.{Stands}
use Rattle.x509_der.specs.Items.{items}
use Rattle.x509_der.specs.Optional.{OptionalAt}
use Rattle.x509_der.specs.Shape.{Shape, Follows}
use Rattle.x509_der.specs.Tagged.{tagged, ContentAt}
use Rattle.x509_der.specs.Tally.{Tally}
use Rattle.x509_der.specs.facts.Element.{element_one, element_length}
use Rattle.x509_fields.specs.declared.span.Span.{Span}
use Rattle.x509_fields.specs.facts.Fields.{other_tag_if}
use Rattle.x509_names.specs.GeneralNames.{general_name}
use Rattle.x509_distribution_points.specs.DistributionPoint.{distribution_point}
use Rattle.x509_distribution_points.specs.DistributionPointName.{distribution_point_name}
use Rattle.x509_distribution_points.specs.declared.structures.distribution_point.DistributionPoint.{DistributionPoint}
use Rattle.x509_values.specs.Rests.{Rest}
use Rattle.x509_values.specs.declared.elements.Element.{Element}
use Rattle.x509_values.proofs.Telling.{held_in}
use Rattle.x509_flat_values.specs.Points.{HeldIf, PointTold, TakesIf}
use Rattle.x509_flat_values.specs.declared.points.PointPlace.{PointPlace}

-- an element begins with its tag
begins : (t : ℕ) (c q rest : List ℕ) → rest ≡ element t c ++ q → Follows (λ b. b == t) rest → ⊥
unfolding element
begins t c q rest e f = let h : (t == t) ≡ false = rw e at f in absurd (true≢false (sym (eq-eqb t t refl) ∙ h))

-- where the walk is behind a field that may be absent
pub record Past {V : Type 0} (t : ℕ) (v : Option V) (m : ℕ) (p q : List ℕ) (new : Rest) (span : Span) : Type 0 where
  pub held : HeldIf t p m span v
  pub rest : new.rest ≡ q
  pub at : new.at ≡ m + length p

pub past : {V : Type 0} (t : ℕ) (s : Shape V) → is_tag t ≡ true → (v : Option V) (m : ℕ) (p q string : List ℕ) (whole : Tally) (old new : Rest) (span : Span) → OptionalAt (tagged t s) v m p string whole → old.rest ≡ p ++ q → old.at ≡ m → Follows (λ b. b == t) q → TakesIf t old new span → Past t v m p q new span
past t s fits None m p q string whole old new span f rest at g (inl h) =
    let e : old.rest ≡ q = rest ∙ ap (λ x. x ++ q) f in
    absurd (h.0 (rw e g))
past t s fits None m p q string whole old new span f rest at g (inr h) = record {
  held = (f, h.2);
  rest = ap (λ (w : Rest). w.rest) h.1 ∙ rest ∙ ap (λ x. x ++ q) f;
  at = omega (arith, ap (λ (w : Rest). w.at) h.1, at, ap length f);
}
past t s fits (Some v) m p q string whole old new span f rest at g (inl h) =
    let k : ContentAt t s v m p string whole = f.parts in
    let r = h.2 t k.content q fits (rest ∙ ap (λ x. x ++ q) k.bytes) in
    record {
      held = held_in t k.content p m h.1.inside span k.bytes r.content (r.at ∙ ap (λ x. x + header k.content) at) h.3;
      rest = r.rest;
      at = omega (arith, r.behind, at, ap length k.bytes, element_length t k.content);
    }
past t s fits (Some v) m p q string whole old new span f rest at g (inr h) =
    let k : ContentAt t s v m p string whole = f.parts in
    absurd (begins t k.content q old.rest (rest ∙ ap (λ x. x ++ q) k.bytes) h.0)

pub point_told : {A : Type 0} (string : List ℕ) (whole : Tally) (v : DistributionPoint A) (n : ℕ) (slice : List ℕ) (item : Element) (w1 w2 w3 : Rest) (at : PointPlace) →
    (h : Stands distribution_point v n slice string whole) → slice ≡ element item.tag item.inside.rest → item.inside.at ≡ n + header item.inside.rest →
    TakesIf 160 item.inside w1 at.name → TakesIf 129 w1 w2 at.reasons → TakesIf 162 w2 w3 at.issuer →
    PointTold string whole v n slice at
point_told string whole v n slice item w1 w2 w3 at h bytes place first second third =
    let w = item.inside in
    let k = h.parts in
    let j = k.inner.parts in
    let i = j.second.parts in
    let same = element_one 48 item.tag k.content w.rest [] [] (ap (λ x. x ++ []) (sym k.bytes ∙ bytes)) in
    let m : w.at ≡ n + header k.content = omega (arith, place, ap header same.content) in
    let last : i.back ≡ i.back ++ [] = sym (append-nil i.back) in
    let behind2 = other_tag_if 129 162 (items general_name) v.crl_issuer i.back [] i.second.field.tally refl i.second.field.spelled tt in
    let r1 = past 160 distribution_point_name refl v.distribution_point (n + header k.content) j.front j.back string whole w w1 at.name j.first.parts (sym same.content ∙ j.bytes) m
    (rw i.bytes (other_tag_if 160 129 bit_strings v.reasons i.front i.back i.first.field.tally refl i.first.field.spelled (rw last (other_tag_if 160 162 (items general_name) v.crl_issuer i.back [] i.second.field.tally refl i.second.field.spelled tt)))) first in
    let r2 = past 129 bit_strings refl v.reasons ((n + header k.content) + length j.front) i.front i.back string whole w1 w2 at.reasons i.first.parts (r1.rest ∙ i.bytes) r1.at (rw last behind2) second in
    let r3 = past 162 (items general_name) refl v.crl_issuer (((n + header k.content) + length j.front) + length i.front) i.back [] string whole w2 w3 at.issuer i.second.parts (r2.rest ∙ last) r2.at tt third in
    record {
      content = k.content;
      names = j.front;
      reasons = i.front;
      issuers = i.back;
      bytes = k.bytes;
      fields = j.bytes ∙ ap (λ x. j.front ++ x) i.bytes;
      name_at = j.first.field;
      reasons_at = i.first.field;
      issuer_at = i.second.field;
      name = r1.held;
      why = r2.held;
      issuer = r3.held;
    }
