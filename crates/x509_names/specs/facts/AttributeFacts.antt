-- The kinds of attributes keep the laws.
use Rattle.std.proofs.Common.{◌≡◌, ℕ, ◌<◌, ◌++◌, true, false, List, [], ◌∷◌, refl, ap, arith, lit<}
use Rattle.x509_names_parts.specs.declared.directory_string.DirectoryString.{DirectoryString}
use Rattle.x509_names_parts.specs.DirectoryStrings.{directory_string}
use Rattle.x509_names.specs.declared.name_attr.NameAttr.{NameAttr}
use Rattle.x509_names.specs.declared.attribute_value.AttributeKind.{AttributeKind}
use Rattle.x509_names.specs.declared.attribute_value.AttributeTypeAndValueParameters.{AttributeTypeAndValueParameters}
use Rattle.x509_names.specs.declared.attribute_type_and_value.AttributeTypeAndValue.{AttributeTypeAndValue}
use Rattle.x509_der.specs.Types.choice.{First}
use Rattle.x509_der.specs.Element.{element}
use Rattle.x509_der.specs.ObjectIdentifier.{IsLawful, oid_content}
use Rattle.x509_der.specs.facts.ArcLists.{no_arcs, and_arc}
use Rattle.x509_der.specs.Shape.{Lawful}
use Rattle.x509_der.specs.laws.Tagged.{tagged_lawful}
use Rattle.x509_der.specs.laws.PrimitiveContent.{itself_lawful}
use Rattle.x509_der.specs.RawElement.{raws}
use Rattle.x509_der.specs.laws.RawElement.{raws_lawful}
use Rattle.x509_der.specs.DefinedBy.{IsFamily}
use Rattle.x509_der.specs.laws.Variant.{variant_lawful, IsVariant}
use Rattle.x509_prim.specs.Texts.{Passes, texts}
use Rattle.x509_prim.specs.CharSets.{are_ascii}
use Rattle.x509_names.specs.Attributes.{arcs_of, email_arcs, kind_of, text_value, held, email, value_bytes, IsValue, by_kind, attribute_inner, attribute, attribute_bytes}
use Rattle.x509_names.specs.declared.name_attr.NameAttr.TheVariants as attr
use Rattle.x509_names.specs.declared.attribute_value.AttributeKind.TheVariants as kind
use Rattle.x509_names.specs.declared.attribute_value.AttributeTypeAndValueParameters.TheVariants as value

-- a directory string's value holds it, whichever attribute it is of
pub text_held : {A : Type 0} (a : NameAttr) (d : DirectoryString A) → held (text_value a d) ≡ First d
text_held attr.CommonName d = refl
text_held attr.Surname d = refl
text_held attr.SerialNumber d = refl
text_held attr.CountryName d = refl
text_held attr.LocalityName d = refl
text_held attr.StateOrProvinceName d = refl
text_held attr.StreetName d = refl
text_held attr.OrganizationName d = refl
text_held attr.OrganizationalUnitName d = refl
text_held attr.GivenName d = refl
text_held attr.Phone d = refl

text_kind : {A : Type 0} (a : NameAttr) → IsVariant {V = AttributeTypeAndValueParameters A} (text_value a) value_bytes IsValue directory_string
text_kind a = record { strict = λ u. rw (text_held a u) refl; valid = λ u h. rw (text_held a u) h; payload = λ u h. rw (text_held a u) at h }

email_kind : {A : Type 0} → IsVariant {V = AttributeTypeAndValueParameters A} value.EmailAddress value_bytes IsValue email
email_kind = record { strict = λ u. refl; valid = λ u h. h; payload = λ u h. h }

other_kind : {A : Type 0} → IsVariant {V = AttributeTypeAndValueParameters A} value.Custom value_bytes IsValue raws
other_kind = record { strict = λ u. refl; valid = λ u h. h; payload = λ u h. h }

by_kind_free : (A : Type 0) → ((c : ℕ) → (directory_string {A = A}).avoids c ≡ false) → (k : AttributeKind) (c : ℕ) → (by_kind {A = A} k).avoids c ≡ false
by_kind_free A f (kind.Text a) c = f c
by_kind_free A f kind.Email c = refl
by_kind_free A f kind.Other c = refl

module _ {A : Type 0} (l : Lawful (directory_string {A = A})) where
  by_kind_lawful : (k : AttributeKind) → Lawful (by_kind {A = A} k)
  by_kind_lawful (kind.Text a) = variant_lawful (text_value a) value_bytes IsValue directory_string l (text_kind a)
  by_kind_lawful kind.Email = variant_lawful value.EmailAddress value_bytes IsValue email (tagged_lawful 22 (texts (Passes are_ascii)) (itself_lawful (Passes are_ascii))) email_kind
  by_kind_lawful kind.Other = variant_lawful value.Custom value_bytes IsValue raws raws_lawful other_kind

  pub value_family : ((c : ℕ) → (directory_string {A = A}).avoids c ≡ false) → IsFamily (λ (arcs : List ℕ). by_kind {A = A} (kind_of arcs)) (λ b. true) (λ b. false)
  value_family f = record { lawful = λ k. by_kind_lawful (kind_of k); begin = λ k c h. refl; end = λ k c h. by_kind_free A f (kind_of k) c }

pub value_agrees : {A : Type 0} (k : AttributeKind) (v : AttributeTypeAndValueParameters A) → (by_kind k).strict v ≡ value_bytes v
value_agrees (kind.Text a) v = refl
value_agrees kind.Email v = refl
value_agrees kind.Other v = refl

inner_agrees : {A : Type 0} (v : AttributeTypeAndValue A) → attribute_inner.strict (v.ty, v.value) ≡ attribute_bytes v
inner_agrees v = ap (λ x. element 6 (oid_content v.ty) ++ x) (value_agrees (kind_of v.ty) v.value)

pub attribute_agrees : {A : Type 0} (v : AttributeTypeAndValue A) → attribute.strict v ≡ element 48 (attribute_bytes v)
attribute_agrees v = ap (element 48) (inner_agrees v)

-- the object identifier of each attribute says its kind
pub text_kinds : (a : NameAttr) → kind_of (arcs_of a) ≡ kind.Text a
text_kinds attr.CommonName = refl
text_kinds attr.Surname = refl
text_kinds attr.SerialNumber = refl
text_kinds attr.CountryName = refl
text_kinds attr.LocalityName = refl
text_kinds attr.StateOrProvinceName = refl
text_kinds attr.StreetName = refl
text_kinds attr.OrganizationName = refl
text_kinds attr.OrganizationalUnitName = refl
text_kinds attr.GivenName = refl
text_kinds attr.Phone = refl

pub email_kinds : kind_of email_arcs ≡ kind.Email
email_kinds = refl

at_lawful : (n : ℕ) → n < 128 → IsLawful (2 ∷ 5 ∷ 4 ∷ n ∷ [])
at_lawful n h = record {
  len = omega arith;
  first = omega arith;
  second = λ l. omega arith;
  both = omega arith;
  each = and_arc 2 (5 ∷ 4 ∷ n ∷ []) (omega arith) (and_arc 5 (4 ∷ n ∷ []) (omega arith) (and_arc 4 (n ∷ []) (omega arith) (and_arc n [] (omega (arith, h)) no_arcs)));
}

-- the arcs of each attribute are an object identifier's
pub attr_lawful : (a : NameAttr) → IsLawful (arcs_of a)
attr_lawful attr.CommonName = at_lawful 3 (lit< tt)
attr_lawful attr.Surname = at_lawful 4 (lit< tt)
attr_lawful attr.SerialNumber = at_lawful 5 (lit< tt)
attr_lawful attr.CountryName = at_lawful 6 (lit< tt)
attr_lawful attr.LocalityName = at_lawful 7 (lit< tt)
attr_lawful attr.StateOrProvinceName = at_lawful 8 (lit< tt)
attr_lawful attr.StreetName = at_lawful 9 (lit< tt)
attr_lawful attr.OrganizationName = at_lawful 10 (lit< tt)
attr_lawful attr.OrganizationalUnitName = at_lawful 11 (lit< tt)
attr_lawful attr.GivenName = at_lawful 42 (lit< tt)
attr_lawful attr.Phone = at_lawful 20 (lit< tt)
