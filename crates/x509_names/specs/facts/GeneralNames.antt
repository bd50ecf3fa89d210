-- What the forms of a general name mean keeps the laws.
use Rattle.std.proofs.Common.{ℕ, ◌≡◌, refl, ap, sym, ◌∙◌, lit<, ◌≤◌, List, [], ◌∷◌, length, Some, arith}
use Rattle.x509_der.specs.Types.{Choice, Deviation}
use Rattle.x509_der.specs.Types.choice.{First, Second}
use Rattle.x509_der.specs.Types.deviation
use Rattle.x509_names.specs.declared.general_name.GeneralName.{GeneralName}
use Rattle.x509_names.specs.declared.general_name.GeneralName.TheVariants as form
use Rattle.std.proofs.Common.{true, false}
use Rattle.x509_der.specs.Choice.{is_first}
use Rattle.x509_der.specs.Shape.{Lawful, IsElement}
use Rattle.x509_der.specs.Tagged.{tagged}
use Rattle.x509_der.specs.laws.Tagged.{tagged_lawful}
use Rattle.x509_der.specs.PrimitiveContent.{octets}
use Rattle.x509_der.specs.laws.PrimitiveContent.{octets_lawful, itself_lawful}
use Rattle.x509_der.specs.ObjectIdentifier.{oids}
use Rattle.x509_der.specs.facts.ObjectIdentifier.{oid_lawful}
use Rattle.x509_der.specs.laws.View.{some_one}
use Rattle.x509_der.specs.laws.Meaning.{IsMeaning, seen_one, seen_lawful, seen_element}
use Rattle.x509_der.specs.View.{IsSeen}
use Rattle.x509_der.specs.facts.Alternatives.{Alternative, under, either_of}
use Rattle.x509_prim.specs.CharSets.{are_ascii}
use Rattle.x509_prim.specs.Texts.{Passes}
use Rattle.x509_names.specs.EdiPartyNames.{edi_content}
use Rattle.x509_names.specs.Names.{name, name_content}
use Rattle.x509_names.specs.OtherNames.{other_content}
use Rattle.x509_names.specs.GeneralNames.{Strict, Loose, general_parts, strict_name, loose_name, ascii, strict_base, loose_base, general_base, general_means, general_meaning, general_name}

-- the tags of the forms that are written, and of the others
abbrev pub strict_tags : List ℕ
strict_tags = 160 ∷ 129 ∷ 130 ∷ 164 ∷ 165 ∷ 134 ∷ 135 ∷ 136 ∷ []

abbrev pub loose_tags : List ℕ
loose_tags = 161 ∷ 162 ∷ 166 ∷ 167 ∷ 168 ∷ 132 ∷ []

abbrev pub general_tags : List ℕ
general_tags = 160 ∷ 129 ∷ 130 ∷ 164 ∷ 165 ∷ 134 ∷ 135 ∷ 136 ∷ 161 ∷ 162 ∷ 166 ∷ 167 ∷ 168 ∷ 132 ∷ []

-- the laws of what is under the tags
pub record ContentsLawful (A : Type 0) : Type 0 where
  pub other : Lawful (other_content {A = A})
  pub names : Lawful (name_content {A = A})
  pub edi : Lawful (edi_content {A = A})

-- the same name, there and back
there : {A : Type 0} (v : GeneralName A) → strict_name (general_parts v) ≡ v
there (form.OtherName v) = refl
there (form.Rfc822Name v) = refl
there (form.DnsName v) = refl
there (form.DirectoryName v) = refl
there (form.EdiPartyName v) = refl
there (form.Uri v) = refl
there (form.IpAddress v) = refl
there (form.RegisteredId v) = refl

pub strict_again : {A : Type 0} (b : Strict A) → general_parts (strict_name b) ≡ b
strict_again (First (First (First v))) = refl
strict_again (First (First (Second v))) = refl
strict_again (First (Second (First v))) = refl
strict_again (First (Second (Second v))) = refl
strict_again (Second (First (First v))) = refl
strict_again (Second (First (Second v))) = refl
strict_again (Second (Second (First v))) = refl
strict_again (Second (Second (Second v))) = refl

-- a loose form has the values of the strict one
loose_kept : {A : Type 0} (b : Loose A) → loose_base.valid b → strict_base.valid (general_parts (loose_name b))
loose_kept (First (First v)) d = d
loose_kept (First (Second v)) d = d
loose_kept (Second (First (First v))) d = d
loose_kept (Second (First (Second v))) d = d
loose_kept (Second (Second (First v))) d = d
loose_kept (Second (Second (Second v))) d = d

loose_read : {A : Type 0} (b : Loose A) → loose_base.readable b → strict_base.readable (general_parts (loose_name b))
loose_read (First (First v)) d = d
loose_read (First (Second v)) d = d
loose_read (Second (First (First v))) d = d
loose_read (Second (First (Second v))) d = d
loose_read (Second (Second (First v))) d = d
loose_read (Second (Second (Second v))) d = d

general_clean : {A : Type 0} (b : Choice (Strict A) (Loose A)) (v : GeneralName A) → general_means b ≡ Some (v, []) → b ≡ First (general_parts v)
general_clean (First b) v e = ap First (sym (strict_again b) ∙ ap general_parts (some_one (strict_name b) v [] [] e).0)
general_clean (Second b) v e = let k = (some_one (loose_name b) v (deviation.GeneralNameForm ∷ []) [] e).1 in cc

general_kept : {A : Type 0} (b : Choice (Strict A) (Loose A)) (v : GeneralName A) (ks : List Deviation) → general_means b ≡ Some (v, ks) → general_base.valid b → strict_base.valid (general_parts v)
general_kept (First b) v ks e d = rw (← (some_one (strict_name b) v [] ks e).0, strict_again b) d
general_kept (Second b) v ks e d = rw (← (some_one (loose_name b) v (deviation.GeneralNameForm ∷ []) ks e).0) (loose_kept b d)

general_read : {A : Type 0} (b : Choice (Strict A) (Loose A)) (v : GeneralName A) (ks : List Deviation) → general_means b ≡ Some (v, ks) → general_base.readable b → strict_base.readable (general_parts v)
general_read (First b) v ks e d = rw (← (some_one (strict_name b) v [] ks e).0, strict_again b) d
general_read (Second b) v ks e d = rw (← (some_one (loose_name b) v (deviation.GeneralNameForm ∷ []) ks e).0) (loose_read b d)

general_is : {A : Type 0} → IsMeaning (general_meaning {A = A}) general_base
general_is = record {
  written = λ v d r. (ap (λ x. Some (x, [])) (there v), d, r);
  stays = λ v d. d;
  clean = λ b v e d r. general_clean b v e;
  kept = general_kept;
  read = general_read;
}

general_one : {A : Type 0} (b : Choice (Strict A) (Loose A)) (v : GeneralName A) (ks : List Deviation) → general_means b ≡ Some (v, ks) → length ks ≤ 1
general_one (First b) v ks e = omega (arith, ap length (some_one (strict_name b) v [] ks e).1)
general_one (Second b) v ks e = omega (arith, ap length (some_one (loose_name b) v (deviation.GeneralNameForm ∷ []) ks e).1)

ascii_lawful : Lawful ascii
ascii_lawful = itself_lawful (Passes are_ascii)

strings_lawful : Lawful (tagged 22 ascii)
strings_lawful = tagged_lawful 22 ascii ascii_lawful

-- the forms, nested as in the grammar
strict_alternatives : {A : Type 0} → ContentsLawful A → Alternative (strict_base {A = A}) strict_tags
strict_alternatives l =
    either_of
    (either_of
    (either_of (under 160 other_content l.other refl (lit< tt)) (under 129 ascii ascii_lawful refl (lit< tt)) refl)
    (either_of (under 130 ascii ascii_lawful refl (lit< tt)) (under 164 name (tagged_lawful 48 name_content l.names) refl (lit< tt)) refl)
    refl)
    (either_of
    (either_of (under 165 edi_content l.edi refl (lit< tt)) (under 134 ascii ascii_lawful refl (lit< tt)) refl)
    (either_of (under 135 octets octets_lawful refl (lit< tt)) (under 136 oids oid_lawful refl (lit< tt)) refl)
    refl)
    refl

loose_alternatives : {A : Type 0} → ContentsLawful A → Alternative (loose_base {A = A}) loose_tags
loose_alternatives l =
    either_of
    (either_of (under 161 (tagged 22 ascii) strings_lawful refl (lit< tt)) (under 162 (tagged 22 ascii) strings_lawful refl (lit< tt)) refl)
    (either_of
    (either_of (under 166 (tagged 22 ascii) strings_lawful refl (lit< tt)) (under 167 (tagged 4 octets) (tagged_lawful 4 octets octets_lawful) refl (lit< tt)) refl)
    (either_of (under 168 (tagged 6 oids) (tagged_lawful 6 oids oid_lawful) refl (lit< tt)) (under 132 name_content l.names refl (lit< tt)) refl)
    refl)
    refl

general_alternatives : {A : Type 0} → ContentsLawful A → Alternative (general_base {A = A}) general_tags
general_alternatives l = either_of (strict_alternatives l) (loose_alternatives l) refl

pub general_keeps : {A : Type 0} → ContentsLawful A → Lawful (general_base {A = A}) × IsSeen (general_meaning {A = A}) general_base
general_keeps l = let a = general_alternatives l in (a.lawful, seen_one general_meaning general_base a.markable general_is general_one)

pub general_lawful : {A : Type 0} → ContentsLawful A → Lawful (general_name {A = A})
general_lawful l = seen_lawful general_meaning general_base (general_keeps l)

pub general_element : {A : Type 0} → ContentsLawful A → IsElement (general_name {A = A})
general_element l = seen_element general_meaning general_base (general_alternatives l).element general_is

-- which form was gone past says the deviation
pub general_first : {A : Type 0} (f : Choice (Strict A) (Loose A)) → is_first f ≡ true → (v : GeneralName A) × (general_means f ≡ Some (v, []))
general_first (First b) e = (strict_name b, refl)
general_first (Second b) e = absurd cc

pub general_second : {A : Type 0} (f : Choice (Strict A) (Loose A)) → is_first f ≡ false → (v : GeneralName A) × (general_means f ≡ Some (v, deviation.GeneralNameForm ∷ []))
general_second (First b) e = absurd cc
general_second (Second b) e = (loose_name b, refl)
