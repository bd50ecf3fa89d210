-- A general name in one of eight forms, six of which are also spelled in another way (RFC 5280, 4.2.1.6).
use Rattle.std.specs.Prelude.{◌≡◌, ◌⊎◌, length, ℕ, List, [], ◌∷◌, Option, Some}
use Rattle.x509_der.specs.Types.{Choice, Deviation}
use Rattle.x509_der.specs.Types.choice.{First, Second}
use Rattle.x509_der.specs.Types.deviation
use Rattle.x509_names.specs.declared.other_name.OtherName.{OtherName}
use Rattle.x509_names.specs.declared.edi_party_name.EdiPartyName.{EdiPartyName}
use Rattle.x509_names.specs.declared.general_name.GeneralName.{GeneralName}
use Rattle.x509_names.specs.declared.general_name.GeneralName.TheVariants as form
use Rattle.x509_der.specs.Element.{element}
use Rattle.x509_der.specs.Tally.{Tally, marked}
use Rattle.x509_der.specs.Shape.{Shape}
use Rattle.x509_der.specs.Fields.{ContentFirst}
use Rattle.x509_der.specs.Tagged.{tagged}
use Rattle.x509_der.specs.Choice.{choice}
use Rattle.x509_der.specs.PrimitiveContent.{octets}
use Rattle.x509_der.specs.ObjectIdentifier.{oids}
use Rattle.x509_der.specs.View.{Meaning, seen}
use Rattle.x509_prim.specs.CharSets.{are_ascii}
use Rattle.x509_prim.specs.Texts.{Passes, texts}
use Rattle.x509_names.specs.EdiPartyNames.{edi_content}
use Rattle.x509_names.specs.Names.{Sets, name, name_content}
use Rattle.x509_names.specs.OtherNames.{other_content}

-- the forms, in the order of their tags
abbrev pub Strict : Type 0 → Type 0
Strict A = Choice (Choice (Choice (OtherName A) (List ℕ)) (Choice (List ℕ) (Sets A))) (Choice (Choice (EdiPartyName A) (List ℕ)) (Choice (List ℕ) (List ℕ)))

-- and those that are deviations
abbrev pub Loose : Type 0 → Type 0
Loose A = Choice (Choice (List ℕ) (List ℕ)) (Choice (Choice (List ℕ) (List ℕ)) (Choice (List ℕ) (Sets A)))

abbrev pub general_parts : {A : Type 0} → GeneralName A → Strict A
general_parts (form.OtherName v) = First (First (First v))
general_parts (form.Rfc822Name v) = First (First (Second v))
general_parts (form.DnsName v) = First (Second (First v))
general_parts (form.DirectoryName v) = First (Second (Second v))
general_parts (form.EdiPartyName v) = Second (First (First v))
general_parts (form.Uri v) = Second (First (Second v))
general_parts (form.IpAddress v) = Second (Second (First v))
general_parts (form.RegisteredId v) = Second (Second (Second v))

abbrev pub strict_name : {A : Type 0} → Strict A → GeneralName A
strict_name (First (First (First v))) = form.OtherName v
strict_name (First (First (Second v))) = form.Rfc822Name v
strict_name (First (Second (First v))) = form.DnsName v
strict_name (First (Second (Second v))) = form.DirectoryName v
strict_name (Second (First (First v))) = form.EdiPartyName v
strict_name (Second (First (Second v))) = form.Uri v
strict_name (Second (Second (First v))) = form.IpAddress v
strict_name (Second (Second (Second v))) = form.RegisteredId v

abbrev pub loose_name : {A : Type 0} → Loose A → GeneralName A
loose_name (First (First v)) = form.Rfc822Name v
loose_name (First (Second v)) = form.DnsName v
loose_name (Second (First (First v))) = form.Uri v
loose_name (Second (First (Second v))) = form.IpAddress v
loose_name (Second (Second (First v))) = form.RegisteredId v
loose_name (Second (Second (Second v))) = form.DirectoryName v

-- the content of IA5String
abbrev pub ascii : Shape (List ℕ)
ascii = texts (Passes are_ascii)

-- GeneralName ::= CHOICE {
--   otherName [0] OtherName, rfc822Name [1] IA5String, dNSName [2] IA5String, directoryName [4] Name,
--   ediPartyName [5] EDIPartyName, uniformResourceIdentifier [6] IA5String, iPAddress [7] OCTET STRING, registeredID [8] OBJECT IDENTIFIER }
-- with implicit tags, but for that of a Name, which is a CHOICE, so that its tag is explicit (X.680, 31.2.7). x400Address [3] is left out
abbrev pub strict_base : {A : Type 0} → Shape (Strict A)
strict_base =
    choice
    (choice (choice (tagged 160 other_content) (tagged 129 ascii)) (choice (tagged 130 ascii) (tagged 164 name)))
    (choice (choice (tagged 165 edi_content) (tagged 134 ascii)) (choice (tagged 135 octets) (tagged 136 oids)))

-- CHOICE {
--   rfc822Name [1] EXPLICIT IA5String, dNSName [2] EXPLICIT IA5String, uniformResourceIdentifier [6] EXPLICIT IA5String,
--   iPAddress [7] EXPLICIT OCTET STRING, registeredID [8] EXPLICIT OBJECT IDENTIFIER }, and the content of a Name under the byte 84
abbrev pub loose_base : {A : Type 0} → Shape (Loose A)
loose_base =
    choice
    (choice (tagged 161 (tagged 22 ascii)) (tagged 162 (tagged 22 ascii)))
    (choice (choice (tagged 166 (tagged 22 ascii)) (tagged 167 (tagged 4 octets))) (choice (tagged 168 (tagged 6 oids)) (tagged 132 name_content)))

-- either, of which the first is written
abbrev pub general_base : {A : Type 0} → Shape (Choice (Strict A) (Loose A))
general_base = choice strict_base loose_base

-- the second has a mark over the whole
abbrev pub general_means : {A : Type 0} → Choice (Strict A) (Loose A) → Option (GeneralName A × List Deviation)
general_means (First b) = Some (strict_name b, [])
general_means (Second b) = Some (loose_name b, deviation.GeneralNameForm ∷ [])

abbrev pub general_meaning : {A : Type 0} → Meaning (Choice (Strict A) (Loose A)) (GeneralName A)
general_meaning = record {
  of = general_means;
  back = λ v. First (general_parts v);
  valid = λ v. strict_base.valid (general_parts v);
  readable = λ v. strict_base.readable (general_parts v);
}

abbrev pub general_name : {A : Type 0} → Shape (GeneralName A)
general_name = seen general_meaning general_base

-- what is under the tag of the form that is written
abbrev pub StrictAt : {A : Type 0} → GeneralName A → List ℕ → Tally → Type 0
StrictAt (form.OtherName v) string y = ContentFirst 160 other_content v string y
StrictAt (form.Rfc822Name v) string y = ContentFirst 129 ascii v string y
StrictAt (form.DnsName v) string y = ContentFirst 130 ascii v string y
StrictAt (form.DirectoryName v) string y = ContentFirst 164 name v string y
StrictAt (form.EdiPartyName v) string y = ContentFirst 165 edi_content v string y
StrictAt (form.Uri v) string y = ContentFirst 134 ascii v string y
StrictAt (form.IpAddress v) string y = ContentFirst 135 octets v string y
StrictAt (form.RegisteredId v) string y = ContentFirst 136 oids v string y

-- the content of a name under 84, which has no tag of its own, and so is no field
pub record Untagged {A : Type 0} (v : Sets A) (string : List ℕ) : Type 0 where
  pub content : List ℕ
  pub bytes : string ≡ element 132 content
  pub tally : Tally
  pub spelled : name_content.spelled v content tally

-- what is under the tag of a form that is a deviation: mostly an element, which is a field
abbrev pub LooseAt : {A : Type 0} → GeneralName A → List ℕ → Tally → Type 0
LooseAt (form.OtherName v) string y = ⊥
LooseAt (form.Rfc822Name v) string y = ContentFirst 161 (tagged 22 ascii) v string y
LooseAt (form.DnsName v) string y = ContentFirst 162 (tagged 22 ascii) v string y
LooseAt (form.DirectoryName v) string y = Untagged v string
LooseAt (form.EdiPartyName v) string y = ⊥
LooseAt (form.Uri v) string y = ContentFirst 166 (tagged 22 ascii) v string y
LooseAt (form.IpAddress v) string y = ContentFirst 167 (tagged 4 octets) v string y
LooseAt (form.RegisteredId v) string y = ContentFirst 168 (tagged 6 oids) v string y

-- a general name by its tag: in the form that is written, with the marks within it; or in another, with a mark over the whole
abbrev pub AlternativeAt : {A : Type 0} → GeneralName A → List ℕ → Tally → Type 0
AlternativeAt v string y =
    (strict_base.spelled (general_parts v) string y × StrictAt v string y)
    ⊎ (((part : Tally) × (y ≡ marked (deviation.GeneralNameForm ∷ []) (length string) part)) × LooseAt v string y)
