-- Where an outline is read and its parts are those of a certificate, the whole is a certificate.
use Rattle.std.proofs.Common.{◌≡◌, ℕ, Bool, true, false, ◌&&◌, List, [], ◌∷◌, ◌++◌, Option, Some, None, length, refl, ap, sym, ◌∙◌, subst}
use Rattle.std.proofs.lemmas.Bool.{false≢true}
use Rattle.std.specs.List.{AllByRecursion, flat_map}
use Rattle.x509_der.specs.BitString.{bit_strings}
use Rattle.x509_der.specs.Element.{element}
use Rattle.x509_der.specs.Integer.{integers}
use Rattle.x509_der.specs.Items.{Items, items}
use Rattle.x509_der.specs.FirstField.{both_fields}
use Rattle.x509_der.specs.Optional.{optional}
use Rattle.x509_der.specs.Shape.{Shape}
use Rattle.x509_der.specs.Tagged.{tagged}
use Rattle.x509_der.specs.Tally.{Tally, none, joined, marked}
use Rattle.x509_der.specs.Types.{Deviation}
use Rattle.x509_names.specs.Types.{Validity, Version}
use Rattle.x509_names.specs.Validities.{validity}
use Rattle.x509_names.specs.Names.{Sets, name}
use Rattle.x509_keys.specs.AlgorithmIdentifier.{Algorithm, algorithm_identifier}
use Rattle.x509_keys.specs.ReadIf.{read_if}
use Rattle.x509_keys.specs.SubjectPublicKeyInfos.{subject_public_key_info}
use Rattle.x509_keys.specs.declared.subject_public_key_info.SubjectPublicKeyInfo.{SubjectPublicKeyInfo}
use Rattle.picky_asn1_x509_parts.specs.Extensions.{ExtensionFields, extension}
use Rattle.picky_asn1_x509.specs.Certificates.{certificate, signature_fields, CertificateFields}
use Rattle.picky_asn1_x509.specs.TbsCertificates.{TbsFields, version_field, issuer_id_field, subject_id_field, extensions_field, required_fields, ends, after_version, tbs_certificate, tbs_base, tbs_inner, tbs_of, is_fitting, version_in, version_kinds, list_in, list_kinds, ids_fit, extensions_fit}
use Rattle.x509_outline_parts.specs.Algorithms as algorithms
use Rattle.x509_outline_parts.specs.Extensions as outlined
use Rattle.x509_outline_parts.specs.Names as names
use Rattle.x509_outline_parts.specs.PublicKeys as keys
use Rattle.x509_outline_parts.specs.declared.extension_outline.ExtensionOutline.{ExtensionOutline}
use Rattle.x509_outline.specs.Certificates as outlines
use Rattle.x509_outline.specs.TbsCertificates as parts
use Rattle.x509_outline.specs.Versions as versions
use Rattle.x509_outline.specs.facts.TbsCertificates.{means_tbs}
use Rattle.x509_outline.specs.declared.certificate_outline.CertificateOutline.{CertificateOutline}
use Rattle.x509_outline.specs.declared.tbs_certificate_outline.TbsCertificateOutline.{TbsCertificateOutline}
use Rattle.x509_outline_laws.specs.Frames.{Reads, IsRead, Pairs, Slices, signed_in, extensions_in, AreRead, IsReadByParts}
use Rattle.x509_outline_laws.proofs.Carrying.{both, within, there, absent}
use Rattle.x509_outline_laws.proofs.SignedParts.{fit_same, in_place}

-- the slices of items, one behind another
record Sliced {V : Type 0} (s : Shape V) (vs : List V) (p : List ℕ) : Type 0 where
  pub each : List (List ℕ)
  pub bytes : p ≡ flat_map (λ x. x) each
  pub reads : Pairs (Reads s) vs each

sliced : {V : Type 0} (s : Shape V) (vs : List V) (p : List ℕ) (y : Tally) → Items s vs p y → Sliced s vs p
sliced s [] p y a = record { each = []; bytes = a.0; reads = tt }
sliced s (v ∷ vs) p y a =
    let m = sliced s vs a.back a.second a.aft in
    record {
      each = a.front ∷ m.each;
      bytes = a.bytes ∙ ap (λ x. a.front ++ x) m.bytes;
      reads = (record { tally = a.first; spelled = a.fore }, m.reads);
    }

-- as many, whatever they are
abbrev Any : {V W : Type 0} → V → W → Type 0
Any v w = Unit {0}

-- the items that each slice is read as
record ItemsRead {V : Type 0} (s : Shape V) (each : List (List ℕ)) : Type 0 where
  pub value : List V
  pub reads : Reads (items s) value (flat_map (λ x. x) each)
  pub count : Pairs Any value each

items_read : {V : Type 0} (s : Shape V) (each : List (List ℕ)) → AllByRecursion (IsRead s) each → ItemsRead s each
items_read s [] h = record { value = []; reads = record { tally = none; spelled = (refl, refl) }; count = tt }
items_read s (p ∷ each) h =
    let m = items_read s each h.1 in
    let f = h.0 in
    let rest = flat_map (λ x. x) each in
    record {
      value = f.value ∷ m.value;
      reads = record {
        tally = joined (length p) f.reads.tally m.reads.tally;
        spelled = record { front = p; back = rest; first = f.reads.tally; second = m.reads.tally; fore = f.reads.spelled; aft = m.reads.spelled; bytes = refl; tally = refl };
      };
      count = (tt, m.count);
    }

as_many : {U V W : Type 0} (R : V → W → Type 0) (us : List U) (vs : List V) (ws : List W) → Pairs Any us ws → Pairs R vs ws → Pairs Any us vs
as_many R [] [] [] a b = tt
as_many R [] [] (w ∷ ws) a b = absurd a
as_many R [] (v ∷ vs) [] a b = absurd b
as_many R [] (v ∷ vs) (w ∷ ws) a b = absurd a
as_many R (u ∷ us) [] [] a b = absurd a
as_many R (u ∷ us) [] (w ∷ ws) a b = absurd b
as_many R (u ∷ us) (v ∷ vs) [] a b = absurd a
as_many R (u ∷ us) (v ∷ vs) (w ∷ ws) a b = (tt, as_many R us vs ws a.1 b.1)

-- the extensions, each in its slice, where there are any
record SlicedIf {A : Type 0} (o : Option (List (ExtensionOutline A))) (p : List ℕ) : Type 0 where
  pub each : Option (List (List ℕ))
  pub bytes : p ≡ extensions_in each
  pub reads : Pairs (Reads (outlined.extension {A = A})) (versions.list_in o) (list_in each)

sliced_if : {A : Type 0} (o : Option (List (ExtensionOutline A))) (p : List ℕ) (y : Tally) → (optional parts.extensions_field).spelled o p y → SlicedIf o p
sliced_if None p y a = record { each = None; bytes = a.0; reads = tt }
sliced_if {A} (Some es) p y a =
    let s = a.spelled in
    let m = sliced (outlined.extension {A = A}) es s.content s.part s.spelled in
    record {
      each = Some m.each;
      bytes = a.bytes ∙ ap (element 163) (s.bytes ∙ ap (element 48) m.bytes);
      reads = m.reads;
    }

-- the list that they are read as
record ListRead (A : Type 0) (each : Option (List (List ℕ))) : Type 0 where
  pub value : Option (List (ExtensionFields A))
  pub reads : Reads (optional extensions_field) value (extensions_in each)
  pub count : Pairs Any (list_in value) (list_in each)

list_read : {A : Type 0} (each : Option (List (List ℕ))) → AllByRecursion (IsRead (extension {A = A})) (list_in each) → ListRead A each
list_read None h = record { value = None; reads = absent extensions_field [] refl; count = tt }
list_read {A} (Some each) h =
    let s = extension {A = A} in
    let m = items_read s each h in
    let rest = flat_map (λ x. x) each in
    let inner = within 48 (items s) m.value rest (element 48 rest) refl m.reads in
    let outer = within 163 (tagged 48 (items s)) m.value (element 48 rest) (element 163 (element 48 rest)) refl inner in
    record { value = Some m.value; reads = there extensions_field m.value (element 163 (element 48 rest)) outer; count = m.count }

is_read_if : {V : Type 0} (b : Bool) (v : V) (ks : List Deviation) → b ≡ true → read_if b v ks ≡ Some (v, ks)
is_read_if true v ks e = refl
is_read_if false v ks e = absurd (false≢true e)

-- fields that fit their version are read as a signed part
tbs_read : {A : Type 0} (f : TbsFields A) (p : List ℕ) → is_fitting (tbs_of f) ≡ true → Reads tbs_base f p → IsRead (tbs_certificate {A = A}) p
tbs_read f p e r =
    let ks = version_kinds f.0 ++ list_kinds f.1.1.1.1 in
    record {
      value = tbs_of f;
      reads = record {
        tally = marked ks (length p) r.tally;
        spelled = record { base = f; kinds = ks; part = r.tally; spelled = r.spelled; means = is_read_if (is_fitting (tbs_of f)) (tbs_of f) ks e; tally = refl };
      };
    }

-- the fields behind each of those that every certificate has
abbrev Holder : Type 0 → Type 0
Holder A = Sets A × SubjectPublicKeyInfo A

abbrev holder : {A : Type 0} → Shape (Holder A)
holder = both_fields name subject_public_key_info

abbrev from_validity : {A : Type 0} → Shape (Validity × Holder A)
from_validity = both_fields validity holder

abbrev from_issuer : {A : Type 0} → Shape (Sets A × (Validity × Holder A))
from_issuer = both_fields name from_validity

abbrev from_algorithm : {A : Type 0} → Shape (Algorithm A × (Sets A × (Validity × Holder A)))
from_algorithm = both_fields algorithm_identifier from_issuer

abbrev from_subject_id : {A : Type 0} → Shape (Option (List Bool) × Option (List (ExtensionFields A)))
from_subject_id = both_fields (optional subject_id_field) (optional extensions_field)

-- fields that stand in slices, as far as both grammars say the same of them
record Common (p : Slices) : Type 0 where
  pub version : Option Version
  pub version_at : Reads (optional version_field) version p.version
  pub serial_number : List ℕ
  pub serial_number_at : Reads (tagged 2 integers) serial_number p.serial_number
  pub dates : Validity
  pub validity_at : Reads validity dates p.validity
  pub issuer_id : Option (List Bool)
  pub issuer_id_at : Reads (optional issuer_id_field) issuer_id p.issuer_unique_id
  pub subject_id : Option (List Bool)
  pub subject_id_at : Reads (optional subject_id_field) subject_id p.subject_unique_id

-- the fields of a signed part, with the parts that are read
abbrev fields_with : {A : Type 0} (p : Slices) → Common p → Algorithm A → Sets A → Sets A → SubjectPublicKeyInfo A → Option (List (ExtensionFields A)) → TbsFields A
fields_with p c a i s k es = (c.version, ((c.serial_number, (a, (i, (c.dates, (s, k))))), (c.issuer_id, (c.subject_id, es))))

fields_read : {A : Type 0} (p : Slices) (c : Common p) (algorithm : List ℕ) (each : Option (List (List ℕ))) (r : AreRead A p algorithm each) (l : ListRead A each) → p.extensions ≡ extensions_in each →
    Reads tbs_base (fields_with p c r.signature.value r.issuer.value r.subject.value r.key.value l.value) (signed_in p)
fields_read {A} p c algorithm each r l e =
    let f = fields_with p c r.signature.value r.issuer.value r.subject.value r.key.value l.value in
    let s = p.subject ++ p.subject_public_key_info in
    let v = p.validity ++ s in
    let i = p.issuer ++ v in
    let a = p.signature ++ i in
    let x = p.subject_unique_id ++ p.extensions in
    let o4 = both name subject_public_key_info r.subject.value r.key.value p.subject p.subject_public_key_info s refl r.subject.reads r.key.reads in
    let o3 = both validity holder c.dates (r.subject.value, r.key.value) p.validity s v refl c.validity_at o4 in
    let o2 = both name from_validity r.issuer.value (c.dates, (r.subject.value, r.key.value)) p.issuer v i refl r.issuer.reads o3 in
    let o1 = both algorithm_identifier from_issuer r.signature.value (r.issuer.value, (c.dates, (r.subject.value, r.key.value))) p.signature i a refl r.signature.reads o2 in
    let or = both (tagged 2 integers) from_algorithm c.serial_number f.1.0.1 p.serial_number a (p.serial_number ++ a) refl c.serial_number_at o1 in
    let es : Reads (optional extensions_field) l.value p.extensions = subst (Reads (optional extensions_field) l.value) (sym e) l.reads in
    let o6 = both (optional subject_id_field) (optional extensions_field) c.subject_id l.value p.subject_unique_id p.extensions x refl c.subject_id_at es in
    let on = both (optional issuer_id_field) from_subject_id c.issuer_id (c.subject_id, l.value) p.issuer_unique_id x (p.issuer_unique_id ++ x) refl c.issuer_id_at o6 in
    let oa = both required_fields ends f.1.0 f.1.1 (p.serial_number ++ a) (p.issuer_unique_id ++ x) ((p.serial_number ++ a) ++ (p.issuer_unique_id ++ x)) refl or on in
    let content = p.version ++ ((p.serial_number ++ a) ++ (p.issuer_unique_id ++ x)) in
    let oj = both (optional version_field) after_version c.version f.1 p.version ((p.serial_number ++ a) ++ (p.issuer_unique_id ++ x)) content refl c.version_at oa in
    within 48 tbs_inner f content (element 48 content) refl oj

-- what is signed, and the signature behind it
abbrev signed_and_signature : {A : Type 0} → Shape (CertificateFields A)
signed_and_signature = both_fields tbs_certificate signature_fields

-- the signed part of fields that fit their version as an outline's do
tbs_is_read : {A : Type 0} (p : List ℕ) (slices : Slices) (c : Common slices) (algorithm : List ℕ) (each : Option (List (List ℕ))) (l : ListRead A each) (r : AreRead A slices algorithm each) →
    p ≡ signed_in slices → slices.extensions ≡ extensions_in each → ids_fit (version_in c.version) c.issuer_id c.subject_id && extensions_fit (version_in c.version) (list_in l.value) ≡ true → IsRead (tbs_certificate {A = A}) p
tbs_is_read p slices c algorithm each l r b x e =
    let g = fields_with slices c r.signature.value r.issuer.value r.subject.value r.key.value l.value in
    let t = fields_read slices c algorithm each r l x in
    tbs_read g p e (subst (Reads tbs_base g) (sym b) t)

-- a certificate of a signed part, an algorithm and a signature that are read
whole_read : {A : Type 0} (signed algorithm signature string : List ℕ) → string ≡ element 48 (signed ++ (algorithm ++ signature)) →
    IsRead (tbs_certificate {A = A}) signed → IsRead (algorithm_identifier {A = A}) algorithm → (v : List Bool) → Reads (tagged 3 bit_strings) v signature → IsRead (certificate {A = A}) string
whole_read signed algorithm signature string e t a v r =
    let b = both algorithm_identifier (tagged 3 bit_strings) a.value v algorithm signature (algorithm ++ signature) refl a.reads r in
    let j = both tbs_certificate signature_fields t.value (a.value, v) signed (algorithm ++ signature) (signed ++ (algorithm ++ signature)) refl t.reads b in
    let w = within 48 signed_and_signature (t.value, (a.value, v)) (signed ++ (algorithm ++ signature)) string e j in
    record {
      value = record { tbs_certificate = t.value; signature_algorithm = a.value; signature_value = v };
      reads = record { tally = w.tally; spelled = w.spelled };
    }

-- an outline's signed part, and that it is a certificate's where the parts are
record Framed {A : Type 0} (o : TbsCertificateOutline A) (p : List ℕ) : Type 0 where
  pub slices : Slices
  pub each : Option (List (List ℕ))
  pub bytes : p ≡ signed_in slices
  pub each_is : slices.extensions ≡ extensions_in each
  pub signature_at : Reads algorithms.algorithm o.signature slices.signature
  pub issuer_at : Reads names.name o.issuer slices.issuer
  pub subject_at : Reads names.name o.subject slices.subject
  pub key_at : Reads keys.public_key o.subject_public_key_info slices.subject_public_key_info
  pub extensions_at : Pairs (Reads outlined.extension) o.extensions (list_in each)
  pub reads : (algorithm : List ℕ) → AreRead A slices algorithm each → IsRead (tbs_certificate {A = A}) p

framed_fields : {A : Type 0} (f : parts.TbsFields A) (p : List ℕ) (y : Tally) → parts.is_fitting (parts.tbs_of f) ≡ true → parts.tbs_base.spelled f p y → Framed (parts.tbs_of f) p
framed_fields {A} f p y e s =
    let j = s.spelled in
    let a = j.aft in
    let r = a.fore in
    let n = a.aft in
    let r1 = r.aft in
    let r2 = r1.aft in
    let r3 = r2.aft in
    let r4 = r3.aft in
    let n1 = n.aft in
    let x = sliced_if f.1.1.1.1 n1.back n1.second n1.aft in
    let slices : Slices = record {
      version = j.front;
      serial_number = r.front;
      signature = r1.front;
      issuer = r2.front;
      validity = r3.front;
      subject = r4.front;
      subject_public_key_info = r4.back;
      issuer_unique_id = n.front;
      subject_unique_id = n1.front;
      extensions = n1.back;
    } in
    let common : Common slices = record {
      version = f.0;
      version_at = record { tally = j.first; spelled = j.fore };
      serial_number = f.1.0.0;
      serial_number_at = record { tally = r.first; spelled = r.fore };
      dates = f.1.0.1.1.1.0;
      validity_at = record { tally = r3.first; spelled = r3.fore };
      issuer_id = f.1.1.0;
      issuer_id_at = record { tally = n.first; spelled = n.fore };
      subject_id = f.1.1.1.0;
      subject_id_at = record { tally = n1.first; spelled = n1.fore };
    } in
    let bytes = in_place p s.content j.front j.back a.front a.back r.front r.back r1.front r1.back r2.front r2.back r3.front r3.back r4.front r4.back n.front n.back n1.front n1.back s.bytes j.bytes a.bytes r.bytes r1.bytes r2.bytes r3.bytes r4.bytes n.bytes n1.bytes in
    record {
      slices = slices;
      each = x.each;
      bytes = bytes;
      each_is = x.bytes;
      signature_at = record { tally = r1.first; spelled = r1.fore };
      issuer_at = record { tally = r2.first; spelled = r2.fore };
      subject_at = record { tally = r4.first; spelled = r4.fore };
      key_at = record { tally = r4.second; spelled = r4.aft };
      extensions_at = x.reads;
      reads = λ algorithm read.
          let l = list_read x.each read.extensions in
          let q = as_many (Reads outlined.extension) (list_in l.value) (versions.list_in f.1.1.1.1) (list_in x.each) l.count x.reads in
          tbs_is_read p slices common algorithm x.each l read bytes x.bytes (sym (fit_same Any f.0 f.1.1.0 f.1.1.1.0 (list_in l.value) (versions.list_in f.1.1.1.1) q) ∙ e);
    }

framed : {A : Type 0} (o : TbsCertificateOutline A) (p : List ℕ) (y : Tally) → parts.tbs_certificate.spelled o p y → Framed o p
framed {A} o p y a =
    let m = means_tbs a.base o a.kinds a.means in
    let P : TbsCertificateOutline A → Type 0 = λ v. Framed v p in
    subst P m.1.0 (framed_fields a.base p a.part m.0 a.spelled)

pub read_by_parts : {A : Type 0} (o : CertificateOutline A) (string : List ℕ) → Reads outlines.certificate o string → IsReadByParts o string
read_by_parts {A} o string d =
    let s = d.spelled in
    let j = s.spelled in
    let b = j.aft in
    let t = framed o.tbs_certificate j.front j.first j.fore in
    let bytes : string ≡ element 48 (j.front ++ (b.front ++ b.back)) = s.bytes ∙ ap (element 48) (j.bytes ∙ ap (λ x. j.front ++ x) b.bytes) in
    record {
      kept = record {
        slices = t.slices;
        algorithm = b.front;
        signature = b.back;
        each = t.each;
        bytes = bytes ∙ ap (λ x. element 48 (x ++ (b.front ++ b.back))) t.bytes;
        each_is = t.each_is;
        signature_at = t.signature_at;
        issuer_at = t.issuer_at;
        subject_at = t.subject_at;
        key_at = t.key_at;
        extensions_at = t.extensions_at;
        algorithm_at = record { tally = b.first; spelled = b.fore };
      };
      reads = λ r. whole_read j.front b.front b.back string bytes (t.reads b.front r) r.signature_algorithm o.signature_value (record { tally = b.second; spelled = b.aft });
    }
