-- The kinds of attributes keep the laws.
use Rattle.std.proofs.Common.{◌≡◌, ℕ, ◌++◌, true, false, List, refl, ap, sym}
use Rattle.x509_der.specs.DefinedBy.{IsFamily}
use Rattle.x509_der.specs.Element.{element}
use Rattle.x509_der.specs.ObjectIdentifier.{oid_content}
use Rattle.x509_der.specs.RawElement.{raws}
use Rattle.x509_der.specs.Shape.{Lawful}
use Rattle.x509_der.specs.laws.RawElement.{raws_lawful}
use Rattle.x509_der.specs.laws.StrictSpelling.{agree_items}
use Rattle.x509_der.specs.laws.Variant.{variant_lawful, IsVariant}
use Rattle.picky_asn1_x509_parts.specs.ExtensionLists.{extensions, extensions_bytes}
use Rattle.picky_asn1_x509_parts.specs.Attribute.{kind_of, requests, content_types, statements, digests, times, value_bytes, IsValue, by_kind, attribute, attribute_bytes}
use Rattle.picky_asn1_x509_parts.specs.facts.ExtensionListFacts.{extensions_agree}
use Rattle.picky_asn1_x509_parts.specs.declared.attribute.AttributeKind.{AttributeKind}
use Rattle.picky_asn1_x509_parts.specs.declared.attribute.AttributeValues.{AttributeValues}
use Rattle.picky_asn1_x509_parts.specs.declared.attribute.Attribute.{Attribute}
use Rattle.picky_asn1_x509_parts.specs.declared.attribute.AttributeKind.TheVariants as kinds
use Rattle.picky_asn1_x509_parts.specs.declared.attribute.AttributeValues.TheVariants as value

extensions_kind : {A : Type 0} → IsVariant {V = AttributeValues A} value.Extensions value_bytes IsValue requests
extensions_kind = record { strict = λ u. ap (element 49) (sym (agree_items extensions extensions_bytes extensions_agree u)); valid = λ u h. h; payload = λ u h. h }

content_kind : {A : Type 0} → IsVariant {V = AttributeValues A} value.ContentType value_bytes IsValue content_types
content_kind = record { strict = λ u. refl; valid = λ u h. h; payload = λ u h. h }

statement_kind : {A : Type 0} → IsVariant {V = AttributeValues A} value.SpcStatementType value_bytes IsValue statements
statement_kind = record { strict = λ u. refl; valid = λ u h. h; payload = λ u h. h }

digest_kind : {A : Type 0} → IsVariant {V = AttributeValues A} value.MessageDigest value_bytes IsValue digests
digest_kind = record { strict = λ u. refl; valid = λ u h. h; payload = λ u h. h }

time_kind : {A : Type 0} → IsVariant {V = AttributeValues A} value.SigningTime value_bytes IsValue times
time_kind = record { strict = λ u. refl; valid = λ u h. h; payload = λ u h. h }

custom_kind : {A : Type 0} → IsVariant {V = AttributeValues A} value.Custom value_bytes IsValue raws
custom_kind = record { strict = λ u. refl; valid = λ u h. h; payload = λ u h. h }

-- the laws of what the values hold
pub record HoldLaws (A : Type 0) : Type 0 where
  pub requests : Lawful (requests {A = A})
  pub content_types : Lawful content_types
  pub statements : Lawful statements
  pub digests : Lawful digests
  pub times : Lawful times

by_kind_lawful : {A : Type 0} → HoldLaws A → (k : AttributeKind) → Lawful (by_kind {A = A} k)
by_kind_lawful l kinds.Extensions = variant_lawful value.Extensions value_bytes IsValue requests l.requests extensions_kind
by_kind_lawful l kinds.ContentType = variant_lawful value.ContentType value_bytes IsValue content_types l.content_types content_kind
by_kind_lawful l kinds.SpcStatementType = variant_lawful value.SpcStatementType value_bytes IsValue statements l.statements statement_kind
by_kind_lawful l kinds.MessageDigest = variant_lawful value.MessageDigest value_bytes IsValue digests l.digests digest_kind
by_kind_lawful l kinds.SigningTime = variant_lawful value.SigningTime value_bytes IsValue times l.times time_kind
by_kind_lawful l kinds.Custom = variant_lawful value.Custom value_bytes IsValue raws raws_lawful custom_kind

by_kind_free : (A : Type 0) (k : AttributeKind) (c : ℕ) → (by_kind {A = A} k).avoids c ≡ false
by_kind_free A kinds.Extensions c = refl
by_kind_free A kinds.ContentType c = refl
by_kind_free A kinds.SpcStatementType c = refl
by_kind_free A kinds.MessageDigest c = refl
by_kind_free A kinds.SigningTime c = refl
by_kind_free A kinds.Custom c = refl

pub value_family : {A : Type 0} → HoldLaws A → IsFamily (λ (arcs : List ℕ). by_kind {A = A} (kind_of arcs)) (λ b. true) (λ b. false)
value_family {A} l = record { lawful = λ k. by_kind_lawful l (kind_of k); begin = λ k c h. refl; end = λ k c h. by_kind_free A (kind_of k) c }

pub value_agrees : {A : Type 0} (k : AttributeKind) (v : AttributeValues A) → (by_kind k).strict v ≡ value_bytes v
value_agrees kinds.Extensions v = refl
value_agrees kinds.ContentType v = refl
value_agrees kinds.SpcStatementType v = refl
value_agrees kinds.MessageDigest v = refl
value_agrees kinds.SigningTime v = refl
value_agrees kinds.Custom v = refl

pub attribute_agrees : {A : Type 0} (v : Attribute A) → attribute.strict v ≡ attribute_bytes v
attribute_agrees v = ap (λ x. element 48 (element 6 (oid_content v.ty) ++ x)) (value_agrees (kind_of v.ty) v.value)
