-- The names of a distribution point, which are walked over.
use Rattle.std.proofs.Common.{◌≡◌, ℕ, ◌+◌, List, [], ◌++◌, refl, sym, ap, ◌∙◌, arith, append-nil}
use Rattle.x509_der.specs.Element.{element, header}
use Rattle.x509_der.specs.Items.{ItemsAt, items}
use Rattle.x509_der.specs.Shape.{Lawful}
use Rattle.x509_der.specs.Tagged.{ContentAt}
use Rattle.x509_der.specs.Tally.{Tally}
use Rattle.x509_names.specs.Attributes.{attribute}
use Rattle.x509_names.specs.GeneralNames.{general_name}
use Rattle.x509_names.specs.declared.general_name.GeneralName.{GeneralName}
use Rattle.x509_distribution_points.specs.DistributionPointName.{distribution_point_name}
use Rattle.x509_distribution_points.specs.declared.structures.distribution_point_name.DistributionPointName.{DistributionPointName}
use Rattle.x509_distribution_points.specs.declared.structures.distribution_point_name.DistributionPointName.TheVariants as place
use Rattle.x509_fields.specs.Spans.{FieldIn, all_of}
use Rattle.x509_values.specs.Elements.{Finds, Over}
use Rattle.x509_values.specs.GeneralNames.{GeneralNameTold}
use Rattle.x509_values.specs.Rests.{Rest}
use Rattle.x509_values.specs.Told.{EachTold, Fills}
use Rattle.x509_values.specs.declared.elements.Element.{Element}
use Rattle.x509_values.specs.declared.general_names.GeneralNamePlace.{GeneralNamePlace}
use Rattle.x509_values.specs.facts.Values.{covered}
use Rattle.x509_flat_values.specs.Points.{FullNamesTold}

-- the names that a walk tells
abbrev Told : (A : Type 0) → Rest → List GeneralNamePlace → List GeneralNamePlace → ℕ → Type 0
Told A now old new count =
    (v : List (GeneralName A)) (n : ℕ) (slice string : List ℕ) (whole : Tally) (h : ItemsAt general_name string whole v n slice) → now.rest ≡ slice → now.at ≡ n →
    Fills (EachTold general_name string whole (GeneralNameTold string whole) v n slice h) old new count

pub full_names : {A : Type 0} → Lawful (distribution_point_name {A = A}) → (v : DistributionPointName A) (string : List ℕ) (whole : Tally) (f : FieldIn distribution_point_name v (all_of string) string whole) (w w1 : Rest) (e : Element) (old new : List GeneralNamePlace) (count : ℕ) → Over string (all_of string) w → Finds w w1 e → e.tag ≡ 160 → Told A e.inside old new count → FullNamesTold v 0 f.slice string whole old new count
full_names l (place.FullName names) string whole f w w1 e old new count over finds tag told =
    let k : ContentAt 160 (items general_name) names 0 f.slice string whole = l.parts (place.FullName names) f.slice f.at.tally f.at.spelled 0 string whole f.at.part in
    let o = over f.slice (covered distribution_point_name (place.FullName names) (all_of string) string whole f) in
    let r = finds 160 k.content [] refl (o.0 ∙ k.bytes ∙ sym (append-nil (element 160 k.content))) in
    (k, told names (0 + header k.content) k.content string whole k.inner.parts r.content (r.at ∙ ap (λ x. x + header k.content) o.1))
full_names l (place.NameRelativeToCrlIssuer names) string whole f w w1 e old new count over finds tag told =
    let k : ContentAt 161 (items attribute) names 0 f.slice string whole = l.parts (place.NameRelativeToCrlIssuer names) f.slice f.at.tally f.at.spelled 0 string whole f.at.part in
    let o = over f.slice (covered distribution_point_name (place.NameRelativeToCrlIssuer names) (all_of string) string whole f) in
    let r = finds 161 k.content [] refl (o.0 ∙ k.bytes ∙ sym (append-nil (element 161 k.content))) in
    absurd (omega (arith, tag, r.tag))

pub no_names : {A : Type 0} → Lawful (distribution_point_name {A = A}) → (v : DistributionPointName A) (string : List ℕ) (whole : Tally) (f : FieldIn distribution_point_name v (all_of string) string whole) (w w1 : Rest) (e : Element) (old : List GeneralNamePlace) → Over string (all_of string) w → Finds w w1 e → (e.tag ≡ 160 → ⊥) → FullNamesTold v 0 f.slice string whole old old 0
no_names l (place.FullName names) string whole f w w1 e old over finds tag =
    let k : ContentAt 160 (items general_name) names 0 f.slice string whole = l.parts (place.FullName names) f.slice f.at.tally f.at.spelled 0 string whole f.at.part in
    let o = over f.slice (covered distribution_point_name (place.FullName names) (all_of string) string whole f) in
    let r = finds 160 k.content [] refl (o.0 ∙ k.bytes ∙ sym (append-nil (element 160 k.content))) in
    absurd (tag r.tag)
no_names l (place.NameRelativeToCrlIssuer names) string whole f w w1 e old over finds tag = (refl, refl)
