-- What stands under the tag of a general name.
use Rattle.std.proofs.Common.{ℕ, subst, inl, inr, ◌≡◌, refl, ap, sym, ◌∙◌, List, [], ◌∷◌, length, Some}
use Rattle.x509_der.specs.Types.{Choice, Deviation}
use Rattle.x509_der.specs.Types.choice.{First, Second}
use Rattle.x509_der.specs.Types.deviation
use Rattle.x509_names.specs.declared.general_name.GeneralName.{GeneralName}
use Rattle.x509_der.specs.Tally.{Tally, marked}
use Rattle.x509_der.specs.Shape.{Lawful}
use Rattle.x509_der.specs.Tagged.{tagged}
use Rattle.x509_der.specs.PrimitiveContent.{octets}
use Rattle.x509_der.specs.ObjectIdentifier.{oids}
use Rattle.x509_der.specs.facts.Tally.{marked_nothing}
use Rattle.x509_der.specs.View.{BaseAt}
use Rattle.x509_der.specs.laws.View.{some_one}
use Rattle.x509_der.specs.facts.ElementPlaces.{content_first}
use Rattle.x509_names.specs.EdiPartyNames.{edi_content}
use Rattle.x509_names.specs.Names.{name}
use Rattle.x509_names.specs.OtherNames.{other_content}
use Rattle.x509_names.specs.GeneralNames.{Strict, Loose, general_parts, strict_name, loose_name, ascii, strict_base, loose_base, general_base, general_means, general_name, StrictAt, LooseAt, AlternativeAt}
use Rattle.x509_names.specs.facts.GeneralNames.{strict_again}

strict_at : {A : Type 0} (b : Strict A) (string : List ℕ) (y : Tally) → strict_base.parts b 0 string string y → StrictAt (strict_name b) string y
strict_at (First (First (First v))) string y d = content_first 160 other_content v string y d
strict_at (First (First (Second v))) string y d = content_first 129 ascii v string y d
strict_at (First (Second (First v))) string y d = content_first 130 ascii v string y d
strict_at (First (Second (Second v))) string y d = content_first 164 name v string y d
strict_at (Second (First (First v))) string y d = content_first 165 edi_content v string y d
strict_at (Second (First (Second v))) string y d = content_first 134 ascii v string y d
strict_at (Second (Second (First v))) string y d = content_first 135 octets v string y d
strict_at (Second (Second (Second v))) string y d = content_first 136 oids v string y d

loose_at : {A : Type 0} (b : Loose A) (string : List ℕ) (y : Tally) → loose_base.parts b 0 string string y → LooseAt (loose_name b) string y
loose_at (First (First v)) string y d = content_first 161 (tagged 22 ascii) v string y d
loose_at (First (Second v)) string y d = content_first 162 (tagged 22 ascii) v string y d
loose_at (Second (First (First v))) string y d = content_first 166 (tagged 22 ascii) v string y d
loose_at (Second (First (Second v))) string y d = content_first 167 (tagged 4 octets) v string y d
loose_at (Second (Second (First v))) string y d = content_first 168 (tagged 6 oids) v string y d
loose_at (Second (Second (Second v))) string y d = record { content = d.content; bytes = d.bytes; tally = d.inner.field.tally; spelled = d.inner.field.spelled }

at_base : {A : Type 0} (b : Choice (Strict A) (Loose A)) (v : GeneralName A) (ks : List Deviation) (string : List ℕ) (part y : Tally) → general_base.spelled b string part → general_means b ≡ Some (v, ks) → y ≡ marked ks (length string) part → general_base.parts b 0 string string y → AlternativeAt v string y
at_base {A} (First b) v ks string part y a e f d =
    let k = some_one (strict_name b) v [] ks e in
    let P : Strict A → Type 0 = λ x. strict_base.spelled x string part in
    let Q : Tally → Type 0 = λ z. strict_base.spelled (general_parts v) string z in
    let R : GeneralName A → Type 0 = λ w. StrictAt w string y in
    inl (subst Q (sym (marked_nothing (length string) ks part y k.1 f)) (subst P (sym (strict_again b) ∙ ap general_parts k.0) a), subst R k.0 (strict_at b string y d))
at_base {A} (Second b) v ks string part y a e f d =
    let k = some_one (loose_name b) v (deviation.GeneralNameForm ∷ []) ks e in
    let R : GeneralName A → Type 0 = λ w. LooseAt w string y in
    inr ((part, f ∙ ap (λ x. marked x (length string) part) (sym k.1)), subst R k.0 (loose_at b string y d))

pub alternative_at : {A : Type 0} → Lawful (general_name {A = A}) → (v : GeneralName A) (string : List ℕ) (y : Tally) → general_name.spelled v string y → BaseAt general_means general_base v 0 string string y → AlternativeAt v string y
alternative_at {A} l v string y a b =
    let again : general_name.spelled v string (marked b.kinds (length string) b.part) = record { base = b.base; kinds = b.kinds; part = b.part; spelled = b.spelled; means = b.means; tally = refl } in
    let e = (l.one v v string string [] [] y (marked b.kinds (length string) b.part) a again refl tt tt).tally in
    at_base b.base v b.kinds string b.part y b.spelled b.means e b.parts
