-- The kinds of extensions keep the laws, and so does what the fields of an extension mean.
use Rattle.std.proofs.Common.{◌≡◌, refl, ap, sym, subst, ◌∙◌, ℕ, ◌≤◌, Bool, true, false, ◌||◌, ◌++◌, eqb, List, [], length, Option, Some, None, arith}
use Rattle.x509_der.specs.Types.{Deviation}
use Rattle.x509_der.specs.Boolean.{booleans}
use Rattle.x509_der.specs.DefinedBy.{IsFamily}
use Rattle.x509_der.specs.Element.{element}
use Rattle.x509_der.specs.Optional.{optional}
use Rattle.x509_der.specs.PrimitiveContent.{octets}
use Rattle.x509_der.specs.Reading.{Cursor, Accepts}
use Rattle.x509_der.specs.Shape.{Lawful}
use Rattle.x509_der.specs.Tagged.{tagged}
use Rattle.x509_der.specs.Tally.{Tally}
use Rattle.x509_der.specs.facts.Alternatives.{byte_apart}
use Rattle.x509_der.specs.facts.Lists.{same_pair}
use Rattle.x509_der.specs.laws.Meaning.{IsMeaning}
use Rattle.x509_der.specs.laws.PrimitiveContent.{octets_lawful}
use Rattle.x509_der.specs.laws.Tagged.{tagged_lawful}
use Rattle.x509_der.specs.laws.Variant.{variant_lawful, IsVariant}
use Rattle.x509_der.specs.laws.View.{some_one}
use Rattle.picky_asn1_x509_parts.specs.facts.AuthorityKeyIdentifierFacts.{authority_agrees}
use Rattle.picky_asn1_x509_parts.specs.Extensions.{kind_of, kind_in, authority_key, subject_key, usage, names, constraints, purposes, generic, crl_number, value_bytes, IsValue, IsReadable, by_kind, Key, Fields, key, inner, extension_base, fields_bytes, AreFitting, ExtensionFields, IsFitting, critical_of, written_critical, critical_kinds, extension_of, extension_means, extension_back, extension_meaning, extension, extension_bytes}
use Rattle.picky_asn1_x509_parts.specs.declared.extension_value.ExtensionKind.{ExtensionKind}
use Rattle.picky_asn1_x509_parts.specs.declared.extension_value.ExtensionValue.{ExtensionValue}
use Rattle.picky_asn1_x509_parts.specs.declared.extension_value.ExtensionKind.TheVariants as kinds
use Rattle.picky_asn1_x509_parts.specs.declared.extension_value.ExtensionValue.TheVariants as value

authority_kind : {A : Type 0} → IsVariant {V = ExtensionValue A} value.AuthorityKeyIdentifier value_bytes IsValue authority_key
authority_kind = record { strict = λ u. ap (element 4) (sym (authority_agrees u)); valid = λ u h. h; payload = λ u h. h }

subject_kind : {A : Type 0} → IsVariant {V = ExtensionValue A} value.SubjectKeyIdentifier value_bytes IsValue subject_key
subject_kind = record { strict = λ u. refl; valid = λ u h. h; payload = λ u h. h }

usage_kind : {A : Type 0} → IsVariant {V = ExtensionValue A} value.KeyUsage value_bytes IsValue usage
usage_kind = record { strict = λ u. refl; valid = λ u h. h; payload = λ u h. h }

subject_name_kind : {A : Type 0} → IsVariant {V = ExtensionValue A} value.SubjectAltName value_bytes IsValue names
subject_name_kind = record { strict = λ u. refl; valid = λ u h. h; payload = λ u h. h }

issuer_name_kind : {A : Type 0} → IsVariant {V = ExtensionValue A} value.IssuerAltName value_bytes IsValue names
issuer_name_kind = record { strict = λ u. refl; valid = λ u h. h; payload = λ u h. h }

constraints_kind : {A : Type 0} → IsVariant {V = ExtensionValue A} value.BasicConstraints value_bytes IsValue constraints
constraints_kind = record { strict = λ u. refl; valid = λ u h. h; payload = λ u h. h }

purposes_kind : {A : Type 0} → IsVariant {V = ExtensionValue A} value.ExtendedKeyUsage value_bytes IsValue purposes
purposes_kind = record { strict = λ u. refl; valid = λ u h. h; payload = λ u h. h }

generic_kind : {A : Type 0} → IsVariant {V = ExtensionValue A} value.Generic value_bytes IsValue generic
generic_kind = record { strict = λ u. refl; valid = λ u h. h; payload = λ u h. h }

number_kind : {A : Type 0} → IsVariant {V = ExtensionValue A} value.CrlNumber value_bytes IsValue crl_number
number_kind = record { strict = λ u. refl; valid = λ u h. h; payload = λ u h. h }

-- the laws of what the values hold
pub record HoldLaws (A : Type 0) : Type 0 where
  pub authority_key : Lawful (authority_key {A = A})
  pub usage : Lawful usage
  pub names : Lawful (names {A = A})
  pub constraints : Lawful constraints
  pub purposes : Lawful purposes
  pub numbers : Lawful crl_number

by_kind_lawful : {A : Type 0} → HoldLaws A → (k : ExtensionKind) → Lawful (by_kind {A = A} k)
by_kind_lawful l kinds.AuthorityKeyIdentifier = variant_lawful value.AuthorityKeyIdentifier value_bytes IsValue authority_key l.authority_key authority_kind
by_kind_lawful l kinds.SubjectKeyIdentifier = variant_lawful value.SubjectKeyIdentifier value_bytes IsValue subject_key (tagged_lawful 4 (tagged 4 octets) (tagged_lawful 4 octets octets_lawful)) subject_kind
by_kind_lawful l kinds.KeyUsage = variant_lawful value.KeyUsage value_bytes IsValue usage l.usage usage_kind
by_kind_lawful l kinds.SubjectAltName = variant_lawful value.SubjectAltName value_bytes IsValue names l.names subject_name_kind
by_kind_lawful l kinds.IssuerAltName = variant_lawful value.IssuerAltName value_bytes IsValue names l.names issuer_name_kind
by_kind_lawful l kinds.BasicConstraints = variant_lawful value.BasicConstraints value_bytes IsValue constraints l.constraints constraints_kind
by_kind_lawful l kinds.ExtendedKeyUsage = variant_lawful value.ExtendedKeyUsage value_bytes IsValue purposes l.purposes purposes_kind
by_kind_lawful l kinds.Generic = variant_lawful value.Generic value_bytes IsValue generic (tagged_lawful 4 octets octets_lawful) generic_kind
by_kind_lawful l kinds.CrlNumber = variant_lawful value.CrlNumber value_bytes IsValue crl_number l.numbers number_kind

by_kind_begins : (A : Type 0) (k : ExtensionKind) (c : ℕ) → (by_kind {A = A} k).starts c ≡ true → eqb c 4 ≡ true
by_kind_begins A kinds.AuthorityKeyIdentifier c h = h
by_kind_begins A kinds.SubjectKeyIdentifier c h = h
by_kind_begins A kinds.KeyUsage c h = h
by_kind_begins A kinds.SubjectAltName c h = h
by_kind_begins A kinds.IssuerAltName c h = h
by_kind_begins A kinds.BasicConstraints c h = h
by_kind_begins A kinds.ExtendedKeyUsage c h = h
by_kind_begins A kinds.Generic c h = h
by_kind_begins A kinds.CrlNumber c h = h

by_kind_free : (A : Type 0) (k : ExtensionKind) (c : ℕ) → (by_kind {A = A} k).avoids c ≡ false
by_kind_free A kinds.AuthorityKeyIdentifier c = refl
by_kind_free A kinds.SubjectKeyIdentifier c = refl
by_kind_free A kinds.KeyUsage c = refl
by_kind_free A kinds.SubjectAltName c = refl
by_kind_free A kinds.IssuerAltName c = refl
by_kind_free A kinds.BasicConstraints c = refl
by_kind_free A kinds.ExtendedKeyUsage c = refl
by_kind_free A kinds.Generic c = refl
by_kind_free A kinds.CrlNumber c = refl

pub value_family : {A : Type 0} → HoldLaws A → IsFamily (λ (k : Key). by_kind {A = A} (kind_of k.0)) (λ b. eqb b 4) (λ b. false)
value_family {A} l = record { lawful = λ k. by_kind_lawful l (kind_of k.0); begin = λ k. by_kind_begins A (kind_of k.0); end = λ k c h. by_kind_free A (kind_of k.0) c }

pub value_agrees : {A : Type 0} (k : ExtensionKind) (v : ExtensionValue A) → (by_kind k).strict v ≡ value_bytes v
value_agrees kinds.AuthorityKeyIdentifier v = refl
value_agrees kinds.SubjectKeyIdentifier v = refl
value_agrees kinds.KeyUsage v = refl
value_agrees kinds.SubjectAltName v = refl
value_agrees kinds.IssuerAltName v = refl
value_agrees kinds.BasicConstraints v = refl
value_agrees kinds.ExtendedKeyUsage v = refl
value_agrees kinds.Generic v = refl
value_agrees kinds.CrlNumber v = refl

pub inner_agrees : {A : Type 0} (f : Fields A) → inner.strict f ≡ fields_bytes f
inner_agrees f = ap (λ x. key.strict f.0 ++ x) (value_agrees (kind_of f.0.0) f.1)

pub extension_agrees : {A : Type 0} (v : ExtensionFields A) → extension.strict v ≡ extension_bytes v
extension_agrees v = ap (element 48) (inner_agrees (extension_back v))

-- what is spelled in the shape of a kind is of the kind
kind_spelled : {A : Type 0} (k : ExtensionKind) (v : ExtensionValue A) (p : List ℕ) (y : Tally) → (by_kind k).spelled v p y → kind_in v ≡ k
kind_spelled kinds.AuthorityKeyIdentifier v p y a = ap kind_in a.is
kind_spelled kinds.SubjectKeyIdentifier v p y a = ap kind_in a.is
kind_spelled kinds.KeyUsage v p y a = ap kind_in a.is
kind_spelled kinds.SubjectAltName v p y a = ap kind_in a.is
kind_spelled kinds.IssuerAltName v p y a = ap kind_in a.is
kind_spelled kinds.BasicConstraints v p y a = ap kind_in a.is
kind_spelled kinds.ExtendedKeyUsage v p y a = ap kind_in a.is
kind_spelled kinds.Generic v p y a = ap kind_in a.is
kind_spelled kinds.CrlNumber v p y a = ap kind_in a.is

-- so the fields that were read fit
pub read_fitting : {A : Type 0} (old new : Cursor) (f : Fields A) → Accepts inner old new f → AreFitting f
read_fitting old new f a = kind_spelled (kind_of f.0.0) f.1 a.spelled.back a.spelled.second a.spelled.aft

-- a value of a kind is read back as itself where what it holds is
own_kind : {A : Type 0} (v : ExtensionValue A) → IsReadable v → (by_kind (kind_in v)).readable v
own_kind (value.AuthorityKeyIdentifier u) h = record { payload = u; is = refl; readable = h }
own_kind (value.SubjectKeyIdentifier u) h = record { payload = u; is = refl; readable = h }
own_kind (value.KeyUsage u) h = record { payload = u; is = refl; readable = h }
own_kind (value.SubjectAltName u) h = record { payload = u; is = refl; readable = h }
own_kind (value.IssuerAltName u) h = record { payload = u; is = refl; readable = h }
own_kind (value.BasicConstraints u) h = record { payload = u; is = refl; readable = h }
own_kind (value.ExtendedKeyUsage u) h = record { payload = u; is = refl; readable = h }
own_kind (value.Generic u) h = record { payload = u; is = refl; readable = h }
own_kind (value.CrlNumber u) h = record { payload = u; is = refl; readable = h }

reads_as : {A : Type 0} (k : ExtensionKind) (v : ExtensionValue A) → kind_in v ≡ k → IsReadable v → (by_kind k).readable v
reads_as k v e h = let P : ExtensionKind → Type 0 = λ k. (by_kind k).readable v in subst P e (own_kind v h)

-- the tag of a value is none that a key may not be followed by
pub key_apart : (c : ℕ) → eqb c 4 ≡ true → (false || eqb c 1) ≡ false
key_apart c h = byte_apart 4 (λ x. false || eqb x 1) refl c h

-- whether an extension is critical, there and back
same_critical : (b : Bool) → critical_of (written_critical b) ≡ b
same_critical false = refl
same_critical true = refl

no_critical_kinds : (b : Bool) → critical_kinds (written_critical b) ≡ []
no_critical_kinds false = refl
no_critical_kinds true = refl

clean_critical : (o : Option Bool) → critical_kinds o ≡ [] → o ≡ written_critical (critical_of o)
clean_critical None e = refl
clean_critical (Some true) e = refl
clean_critical (Some false) e = cc

few_critical : (o : Option Bool) → length (critical_kinds o) ≤ 1
few_critical None = omega arith
few_critical (Some true) = omega arith
few_critical (Some false) = omega arith

valid_critical : (b : Bool) → (optional (tagged 1 booleans)).valid (written_critical b)
valid_critical false = tt
valid_critical true = tt

readable_critical : (b : Bool) → (optional (tagged 1 booleans)).readable (written_critical b)
readable_critical false = tt
readable_critical true = tt

pub means_one : {A : Type 0} (b : Fields A) (v : ExtensionFields A) (ks : List Deviation) → extension_means b ≡ Some (v, ks) → (extension_of b ≡ v) × (critical_kinds b.0.1 ≡ ks)
means_one b v ks e = some_one (extension_of b) v (critical_kinds b.0.1) ks e

pub extension_is : {A : Type 0} → IsMeaning (extension_meaning {A = A}) extension_base
extension_is {A} = record {
  written = λ v d r. (
    ap (λ x. Some (record { extn_id = v.extn_id; critical = x; extn_value = v.extn_value }, critical_kinds (written_critical v.critical))) (same_critical v.critical) ∙ ap (λ x. Some (v, x)) (no_critical_kinds v.critical),
    d,
    r,
  );
  stays = λ v d. d;
  clean = λ b v e d r.
      let m = means_one b v [] e in
      let n : b.0.0 ≡ v.extn_id = ap (λ (x : ExtensionFields A). x.extn_id) m.0 in
      let c : b.0.1 ≡ written_critical v.critical = clean_critical b.0.1 m.1 ∙ ap (λ (x : ExtensionFields A). written_critical x.critical) m.0 in
      let k : b.0 ≡ (extension_back v).0 = same_pair (λ (x : Key). x.0) (λ x. x.1) (λ x y. (x, y)) (λ x. refl) b.0 (extension_back v).0 n c in
      same_pair (λ (x : Fields A). x.0) (λ x. x.1) (λ x y. (x, y)) (λ x. refl) b (extension_back v) k (ap (λ (x : ExtensionFields A). x.extn_value) m.0);
  kept = λ b v ks e d. rw (← (means_one b v ks e).0) ((d.0.0, valid_critical (critical_of b.0.1)), d.1);
  read = λ b v ks e r. rw (← (means_one b v ks e).0) ((r.0.0, readable_critical (critical_of b.0.1)), r.1);
}

-- at most one deviation
pub extension_one : {A : Type 0} (b : Fields A) (v : ExtensionFields A) (ks : List Deviation) → extension_means b ≡ Some (v, ks) → length ks ≤ 1
extension_one b v ks e = omega (arith, few_critical b.0.1, ap length (means_one b v ks e).1)

-- an extension whose parts are read back as themselves is read back as itself
pub fitting_reads : {A : Type 0} (v : ExtensionFields A) → IsFitting v → IsReadable v.extn_value → extension.readable v
fitting_reads v e h = ((tt, readable_critical v.critical), reads_as (kind_of v.extn_id) v.extn_value e h)

kind_reads : {A : Type 0} (k : ExtensionKind) (v : ExtensionValue A) → (by_kind k).readable v → (kind_in v ≡ k) × IsReadable v
kind_reads kinds.AuthorityKeyIdentifier v r = (ap kind_in r.is, subst IsReadable (sym r.is) r.readable)
kind_reads kinds.SubjectKeyIdentifier v r = (ap kind_in r.is, subst IsReadable (sym r.is) r.readable)
kind_reads kinds.KeyUsage v r = (ap kind_in r.is, subst IsReadable (sym r.is) r.readable)
kind_reads kinds.SubjectAltName v r = (ap kind_in r.is, subst IsReadable (sym r.is) r.readable)
kind_reads kinds.IssuerAltName v r = (ap kind_in r.is, subst IsReadable (sym r.is) r.readable)
kind_reads kinds.BasicConstraints v r = (ap kind_in r.is, subst IsReadable (sym r.is) r.readable)
kind_reads kinds.ExtendedKeyUsage v r = (ap kind_in r.is, subst IsReadable (sym r.is) r.readable)
kind_reads kinds.Generic v r = (ap kind_in r.is, subst IsReadable (sym r.is) r.readable)
kind_reads kinds.CrlNumber v r = (ap kind_in r.is, subst IsReadable (sym r.is) r.readable)

-- and no other is
pub reads_fitting : {A : Type 0} (v : ExtensionFields A) → extension.readable v → IsFitting v × IsReadable v.extn_value
reads_fitting v r = kind_reads (kind_of v.extn_id) v.extn_value r.1
