-- What is told of the points where revocation lists are found (RFC 5280, 4.2.1.13).
use Rattle.std.specs.Prelude.{◌≡◌, ◌==◌, ◌⊎◌, ℕ, ◌+◌, List, [], ◌++◌, length, Option, Some, None}
use Rattle.x509_der.specs.BitString.{bit_strings}
use Rattle.x509_der.specs.Element.{element, header}
use Rattle.x509_der.specs.Fields.{FieldAt}
use Rattle.x509_der.specs.Items.{items}
use Rattle.x509_der.specs.Optional.{optional}
use Rattle.x509_der.specs.Shape.{Follows}
use Rattle.x509_der.specs.Calls.{IsWhole}
use Rattle.x509_der.specs.Tagged.{tagged, ContentAt}
use Rattle.x509_der.specs.Tally.{Tally}
use Rattle.x509_names.specs.GeneralNames.{general_name}
use Rattle.x509_distribution_points.specs.DistributionPoint.{distribution_point}
use Rattle.x509_distribution_points.specs.DistributionPointName.{distribution_point_name}
use Rattle.x509_distribution_points.specs.declared.structures.distribution_point_name.DistributionPointName.{DistributionPointName}
use Rattle.x509_distribution_points.specs.declared.structures.distribution_point_name.DistributionPointName.TheVariants as place
use Rattle.x509_distribution_points.specs.declared.structures.distribution_point.DistributionPoint.{DistributionPoint}
use Rattle.x509_fields.specs.declared.span.Span.{Span}
use Rattle.x509_flat.specs.Values.{FrontFilled}
use Rattle.x509_flat.specs.declared.status.Status.{Status}
use Rattle.x509_values.specs.Elements.{Finds, span_of}
use Rattle.x509_values.specs.GeneralNames.{GeneralNameTold}
use Rattle.x509_values.specs.Rests.{Rest}
use Rattle.x509_values.specs.Told.{EachTold, Fills, HeldIn}
use Rattle.x509_values.specs.declared.general_names.GeneralNamePlace.{GeneralNamePlace}
use Rattle.x509_values.specs.declared.elements.Element.{Element}
use Rattle.x509_flat_values.specs.Covered.{no_span}
use Rattle.x509_flat_values.specs.Lists.{ListFills}
use Rattle.x509_flat_values.specs.declared.points.PointPlace.{PointPlace}

-- a field that may be absent: what stands in it, or 0..0
abbrev pub HeldIf : {V : Type 0} → ℕ → List ℕ → ℕ → Span → Option V → Type 0
HeldIf tag slice n span (Some v) = HeldIn tag slice n span
HeldIf tag slice n span None = (slice ≡ []) × (span ≡ no_span)

-- of a point in the slice, which stands behind so many bytes: what stands in each of its fields
pub record PointTold {A : Type 0} (string : List ℕ) (whole : Tally) (v : DistributionPoint A) (n : ℕ) (slice : List ℕ) (at : PointPlace) : Type 0 where
  pub content : List ℕ
  pub names : List ℕ
  pub reasons : List ℕ
  pub issuers : List ℕ
  pub bytes : slice ≡ element 48 content
  pub fields : content ≡ names ++ (reasons ++ issuers)
  pub name_at : FieldAt (optional (tagged 160 distribution_point_name)) v.distribution_point (n + header content) names string whole
  pub reasons_at : FieldAt (optional (tagged 129 bit_strings)) v.reasons ((n + header content) + length names) reasons string whole
  pub issuer_at : FieldAt (optional (tagged 162 (items general_name))) v.crl_issuer (((n + header content) + length names) + length reasons) issuers string whole
  pub name : HeldIf 160 names (n + header content) at.name v.distribution_point
  pub why : HeldIf 129 reasons ((n + header content) + length names) at.reasons v.reasons
  pub issuer : HeldIf 162 issuers (((n + header content) + length names) + length reasons) at.issuer v.crl_issuer

-- the walk goes past an element with the tag, and the span is that of what stands in it; or none comes next, and the walk stays
abbrev pub TakesIf : ℕ → Rest → Rest → Span → Type 0
TakesIf tag old new span =
    ((Follows (λ b. b == tag) old.rest → ⊥) × (e : Element) × Finds old new e × (span ≡ span_of e.inside))
    ⊎ (Follows (λ b. b == tag) old.rest × (new ≡ old) × (span ≡ no_span))

-- of a point's name that is full, where its general names stand, in order and none left out; and that one which is relative to its issuer's has none
abbrev pub FullNamesTold : {A : Type 0} → DistributionPointName A → ℕ → List ℕ → List ℕ → Tally → List GeneralNamePlace → List GeneralNamePlace → ℕ → Type 0
FullNamesTold (place.FullName names) n slice string whole old new count =
    (list : ContentAt 160 (items general_name) names n slice string whole)
    × Fills (EachTold general_name string whole (GeneralNameTold string whole) names (n + header list.content) list.content list.inner.parts) old new count
FullNamesTold (place.NameRelativeToCrlIssuer names) n slice string whole old new count = (new ≡ old) × (count ≡ 0)

-- the name of a point that the bytes encode, from their first byte on
pub record FullNamesHeld (A : Type 0) (bytes : List ℕ) (old new : List GeneralNamePlace) (count : ℕ) : Type 0 where
  pub value : DistributionPointName A
  pub tally : Tally
  pub whole : IsWhole (distribution_point_name {A = A}) bytes value tally
  pub told : FullNamesTold value 0 bytes bytes tally old new count

abbrev pub FullNamesFill : (A : Type 0) → List ℕ → List GeneralNamePlace → List GeneralNamePlace → Status → ℕ → Type 0
FullNamesFill A bytes old new status count = FrontFilled (distribution_point_name {A = A}) bytes (FullNamesHeld A bytes old new) old new status count

-- what a status says of telling those of an extension's value
abbrev pub PointsFill : (A : Type 0) → List ℕ → List PointPlace → List PointPlace → Status → ℕ → Type 0
PointsFill A value old new status count = ListFills (distribution_point {A = A}) PointTold value old new status count
