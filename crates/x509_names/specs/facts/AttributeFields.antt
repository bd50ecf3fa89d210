-- What a value holds stands in its place, and a value is read back where its type says its kind.
use Rattle.std.proofs.Common.{◌≡◌, ◌↔◌, ℕ, List, refl, ap, subst, sym, ◌∙◌}
use Rattle.x509_names_parts.specs.declared.directory_string.DirectoryString.{DirectoryString}
use Rattle.x509_names_parts.specs.declared.directory_string.DirectoryString.TheVariants.{PrintableString, Utf8String, BmpString}
use Rattle.x509_names_parts.specs.DirectoryStrings.{directory_string}
use Rattle.x509_names.specs.declared.name_attr.NameAttr.{NameAttr}
use Rattle.x509_names.specs.declared.attribute_value.AttributeKind.{AttributeKind}
use Rattle.x509_names.specs.declared.attribute_value.AttributeTypeAndValueParameters.{AttributeTypeAndValueParameters}
use Rattle.x509_names.specs.declared.attribute_type_and_value.AttributeTypeAndValue.{AttributeTypeAndValue}
use Rattle.x509_der.specs.Tally.{Tally}
use Rattle.x509_names.specs.Attributes.{Held, text_value, held, by_kind, kind_of, attribute, text_attribute, email_attribute}
use Rattle.x509_names.specs.AttributeFields.{HeldAt, kind_in}
use Rattle.x509_names.specs.facts.AttributeFacts.{text_held, text_kinds, email_kinds}
use Rattle.x509_names.specs.declared.name_attr.NameAttr.TheVariants as attr
use Rattle.x509_names.specs.declared.attribute_value.AttributeKind.TheVariants as kind
use Rattle.x509_names.specs.declared.attribute_value.AttributeTypeAndValueParameters.TheVariants as value

pub held_stands : {A : Type 0} (k : AttributeKind) (v : AttributeTypeAndValueParameters A) (n : ℕ) (slice string : List ℕ) (y : Tally) → (by_kind k).parts v n slice string y → HeldAt (held v) n slice string y
held_stands {A} (kind.Text a) v n slice string y p =
    let P : Held A → Type 0 = λ h. HeldAt h n slice string y in
    subst P (sym (ap held p.is ∙ text_held a p.payload)) p.inner
held_stands {A} kind.Email v n slice string y p =
    let P : Held A → Type 0 = λ h. HeldAt h n slice string y in
    subst P (sym (ap held p.is)) p.inner
held_stands {A} kind.Other v n slice string y p =
    let P : Held A → Type 0 = λ h. HeldAt h n slice string y in
    subst P (sym (ap held p.is)) p.inner

-- every directory string is read back
text_readable : {A : Type 0} (d : DirectoryString A) → directory_string.readable d
text_readable (PrintableString v) = tt
text_readable (Utf8String v) = tt
text_readable (BmpString v) = tt

text_kind_in : {A : Type 0} (a : NameAttr) (d : DirectoryString A) → kind_in (text_value a d) ≡ kind.Text a
text_kind_in attr.CommonName d = refl
text_kind_in attr.Surname d = refl
text_kind_in attr.SerialNumber d = refl
text_kind_in attr.CountryName d = refl
text_kind_in attr.LocalityName d = refl
text_kind_in attr.StateOrProvinceName d = refl
text_kind_in attr.StreetName d = refl
text_kind_in attr.OrganizationName d = refl
text_kind_in attr.OrganizationalUnitName d = refl
text_kind_in attr.GivenName d = refl
text_kind_in attr.Phone d = refl

-- a value is read back behind a type that says its kind
own_kind : {A : Type 0} (v : AttributeTypeAndValueParameters A) → (by_kind (kind_in v)).readable v
own_kind (value.CommonName d) = record { payload = d; is = refl; readable = text_readable d }
own_kind (value.Surname d) = record { payload = d; is = refl; readable = text_readable d }
own_kind (value.SerialNumber d) = record { payload = d; is = refl; readable = text_readable d }
own_kind (value.CountryName d) = record { payload = d; is = refl; readable = text_readable d }
own_kind (value.LocalityName d) = record { payload = d; is = refl; readable = text_readable d }
own_kind (value.StateOrProvinceName d) = record { payload = d; is = refl; readable = text_readable d }
own_kind (value.StreetName d) = record { payload = d; is = refl; readable = text_readable d }
own_kind (value.OrganizationName d) = record { payload = d; is = refl; readable = text_readable d }
own_kind (value.OrganizationalUnitName d) = record { payload = d; is = refl; readable = text_readable d }
own_kind (value.EmailAddress i) = record { payload = i; is = refl; readable = tt }
own_kind (value.GivenName d) = record { payload = d; is = refl; readable = text_readable d }
own_kind (value.Phone d) = record { payload = d; is = refl; readable = text_readable d }
own_kind (value.Custom r) = record { payload = r; is = refl; readable = tt }

-- and behind no other
kind_readable : {A : Type 0} (k : AttributeKind) (v : AttributeTypeAndValueParameters A) → (by_kind k).readable v → kind_in v ≡ k
kind_readable (kind.Text a) v r = ap kind_in r.is ∙ text_kind_in a r.payload
kind_readable kind.Email v r = ap kind_in r.is
kind_readable kind.Other v r = ap kind_in r.is

pub attribute_readable : {A : Type 0} (v : AttributeTypeAndValue A) → attribute.readable v ↔ (kind_in v.value ≡ kind_of v.ty)
attribute_readable v = (
  λ r. kind_readable (kind_of v.ty) v.value r.1,
  λ e. let P : AttributeKind → Type 0 = λ k. (by_kind k).readable v.value in (tt, subst P e (own_kind v.value)),
)

pub text_reads_back : {A : Type 0} (a : NameAttr) (d : DirectoryString A) → attribute.readable (text_attribute a d)
text_reads_back a d = (attribute_readable (text_attribute a d)).1 (text_kind_in a d ∙ sym (text_kinds a))

pub email_reads_back : {A : Type 0} (i : List ℕ) → (attribute {A = A}).readable (email_attribute i)
email_reads_back i = (attribute_readable (email_attribute i)).1 (sym email_kinds)
