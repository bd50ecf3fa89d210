-- A signed part has an outline, and so has a certificate.
use Rattle.std.proofs.Common.{◌≡◌, ℕ, Bool, true, false, ◌&&◌, List, [], ◌∷◌, ◌++◌, Option, Some, None, length, refl, ap, ◌∙◌, subst}
use Rattle.std.proofs.lemmas.Bool.{false≢true}
use Rattle.x509_der.specs.BitString.{bit_strings}
use Rattle.x509_der.specs.Element.{AreBytes, element}
use Rattle.x509_der.specs.Integer.{integers}
use Rattle.x509_der.specs.FirstField.{both_fields}
use Rattle.x509_der.specs.Optional.{optional}
use Rattle.x509_der.specs.Shape.{Shape}
use Rattle.x509_der.specs.Tagged.{tagged}
use Rattle.x509_der.specs.Tally.{Tally, marked}
use Rattle.x509_der.specs.Types.{Deviation}
use Rattle.x509_names.specs.Types.{Validity, Version}
use Rattle.x509_names.specs.Types.version.{V1, V2, V3}
use Rattle.x509_names.specs.Validities.{validity}
use Rattle.picky_asn1_x509.specs.Certificates.{certificate}
use Rattle.picky_asn1_x509.specs.TbsCertificates.{TbsFields, version_field, issuer_id_field, subject_id_field, ends, tbs_certificate, tbs_base, tbs_of, is_fitting, version_in, list_in, ids_fit, extensions_fit}
use Rattle.picky_asn1_x509.specs.facts.TbsCertificates.{means_tbs}
use Rattle.picky_asn1_x509.specs.declared.certificate.Certificate.{Certificate}
use Rattle.picky_asn1_x509.specs.declared.tbs_certificate.TbsCertificate.{TbsCertificate}
use Rattle.x509_outline_parts.specs.Algorithms.{algorithm}
use Rattle.x509_outline_parts.specs.Names as names
use Rattle.x509_outline_parts.specs.PublicKeys as keys
use Rattle.x509_outline.specs.Certificates as outlines
use Rattle.x509_outline.specs.TbsCertificates as parts
use Rattle.x509_outline.specs.Versions as versions
use Rattle.x509_outline_parts.specs.declared.algorithm_outline.AlgorithmOutline.{AlgorithmOutline}
use Rattle.x509_outline_parts.specs.declared.extension_outline.ExtensionOutline.{ExtensionOutline}
use Rattle.x509_outline_parts.specs.declared.public_key_outline.PublicKeyOutline.{PublicKeyOutline}
use Rattle.x509_outline.specs.declared.tbs_certificate_outline.TbsCertificateOutline.{TbsCertificateOutline}
use Rattle.x509_outline_laws.specs.Frames.{Reads, Pairs, signed_in, SameExtension, SameFields, HasOutline}
use Rattle.x509_outline_laws.proofs.Carrying.{BothIf, both, within, bytes_first, bytes_second, bytes_content}
use Rattle.x509_outline_laws.proofs.Algorithms.{algorithm_carries}
use Rattle.x509_outline_laws.proofs.Names.{name_carries}
use Rattle.x509_outline_laws.proofs.Keys.{key_carries}
use Rattle.x509_outline_laws.proofs.Extensions.{list_carries}

-- what the version asks of the other fields, in either grammar
pub version_same : (o : Option Version) → versions.version_in o ≡ version_in o
version_same None = refl
version_same (Some v) = refl

ids_same : {V W : Type 0} (n : Version) (i : Option V) (s : Option W) → versions.ids_fit n i s ≡ ids_fit n i s
ids_same V1 None None = refl
ids_same V1 None (Some s) = refl
ids_same V1 (Some i) s = refl
ids_same V2 i s = refl
ids_same V3 i s = refl

extensions_same : {V W : Type 0} (R : V → W → Type 0) (n : Version) (es : List V) (fs : List W) → Pairs R es fs → versions.extensions_fit n fs ≡ extensions_fit n es
extensions_same R V1 [] [] h = refl
extensions_same R V1 [] (f ∷ fs) h = absurd h
extensions_same R V1 (e ∷ es) [] h = absurd h
extensions_same R V1 (e ∷ es) (f ∷ fs) h = refl
extensions_same R V2 [] [] h = refl
extensions_same R V2 [] (f ∷ fs) h = absurd h
extensions_same R V2 (e ∷ es) [] h = absurd h
extensions_same R V2 (e ∷ es) (f ∷ fs) h = refl
extensions_same R V3 es fs h = refl

pub lists_paired : {V W : Type 0} (R : V → W → Type 0) (es : Option (List V)) (fs : Option (List W)) → BothIf (Pairs R) es fs → Pairs R (list_in es) (versions.list_in fs)
lists_paired R None None h = tt
lists_paired R None (Some fs) h = absurd h
lists_paired R (Some es) None h = absurd h
lists_paired R (Some es) (Some fs) h = h

pub fit_same : {U V W X : Type 0} (R : W → X → Type 0) (o : Option Version) (i : Option U) (s : Option V) (es : List W) (fs : List X) → Pairs R es fs →
    versions.ids_fit (versions.version_in o) i s && versions.extensions_fit (versions.version_in o) fs ≡ ids_fit (version_in o) i s && extensions_fit (version_in o) es
fit_same R o i s es fs h =
    let n = version_same o in
    ap (λ v. versions.ids_fit v i s && versions.extensions_fit v fs) n
    ∙ ap (λ b. b && versions.extensions_fit (version_in o) fs) (ids_same (version_in o) i s)
    ∙ ap (λ b. ids_fit (version_in o) i s && b) (extensions_same R (version_in o) es fs h)

pub is_read_if : {V : Type 0} (b : Bool) (v : V) (ks : List Deviation) → b ≡ true → versions.read_if b v ks ≡ Some (v, ks)
is_read_if true v ks e = refl
is_read_if false v ks e = absurd (false≢true e)

-- a signed part, its outline, and that they have the same fields
record Outlined {A : Type 0} (c : TbsCertificate A) (p : List ℕ) : Type 0 where
  pub outline : TbsCertificateOutline A
  pub reads : Reads parts.tbs_certificate outline p
  pub same : SameFields c outline p

-- the fields of an outline as they are read
tbs_read : {A : Type 0} (f : parts.TbsFields A) (p : List ℕ) → parts.is_fitting (parts.tbs_of f) ≡ true → Reads parts.tbs_base f p → Reads parts.tbs_certificate (parts.tbs_of f) p
tbs_read f p e r =
    let ks = versions.version_kinds f.0 ++ versions.list_kinds f.1.1.1.1 in
    record {
      tally = marked ks (length p) r.tally;
      spelled = record { base = f; kinds = ks; part = r.tally; spelled = r.spelled; means = is_read_if (parts.is_fitting (parts.tbs_of f)) (parts.tbs_of f) ks e; tally = refl };
    }

-- the fields behind each of those that every certificate has
abbrev Holder : Type 0 → Type 0
Holder A = names.Sets A × PublicKeyOutline A

abbrev holder : {A : Type 0} → Shape (Holder A)
holder = both_fields names.name keys.public_key

abbrev from_validity : {A : Type 0} → Shape (Validity × Holder A)
from_validity = both_fields validity holder

abbrev from_issuer : {A : Type 0} → Shape (names.Sets A × (Validity × Holder A))
from_issuer = both_fields names.name from_validity

abbrev from_algorithm : {A : Type 0} → Shape (AlgorithmOutline A × (names.Sets A × (Validity × Holder A)))
from_algorithm = both_fields algorithm from_issuer

-- and behind the identifier of the issuer
abbrev from_subject_id : {A : Type 0} → Shape (Option (List Bool) × Option (List (ExtensionOutline A)))
from_subject_id = both_fields (optional subject_id_field) (optional parts.extensions_field)

-- ten slices one behind another
pub in_place : (p content version rest required ends serial r1 signature r2 issuer r3 validity r4 subject key issuer_id e1 subject_id extensions : List ℕ) →
    p ≡ element 48 content → content ≡ version ++ rest → rest ≡ required ++ ends →
    required ≡ serial ++ r1 → r1 ≡ signature ++ r2 → r2 ≡ issuer ++ r3 → r3 ≡ validity ++ r4 → r4 ≡ subject ++ key →
    ends ≡ issuer_id ++ e1 → e1 ≡ subject_id ++ extensions →
    p ≡ signed_in (record {
      version = version;
      serial_number = serial;
      signature = signature;
      issuer = issuer;
      validity = validity;
      subject = subject;
      subject_public_key_info = key;
      issuer_unique_id = issuer_id;
      subject_unique_id = subject_id;
      extensions = extensions;
    })
in_place p content version rest required ends serial r1 signature r2 issuer r3 validity r4 subject key issuer_id e1 subject_id extensions a b c d e f g h i j = cc

-- the outline of fields that fit their version
outlined_fields : {A : Type 0} (f : TbsFields A) (p : List ℕ) (y : Tally) → AreBytes p → is_fitting (tbs_of f) ≡ true → tbs_base.spelled f p y → Outlined (tbs_of f) p
outlined_fields {A} f p y h e s =
    let j = s.spelled in
    let a = j.aft in
    let r = a.fore in
    let n = a.aft in
    let hc = bytes_content 48 s.content p s.bytes h in
    let ha = bytes_second j.front j.back s.content j.bytes hc in
    let hr = bytes_first a.front a.back j.back a.bytes ha in
    let hn = bytes_second a.front a.back j.back a.bytes ha in
    let h1 = bytes_second r.front r.back a.front r.bytes hr in
    let r1 = r.aft in
    let h2 = bytes_second r1.front r1.back r.back r1.bytes h1 in
    let r2 = r1.aft in
    let h3 = bytes_second r2.front r2.back r1.back r2.bytes h2 in
    let r3 = r2.aft in
    let h4 = bytes_second r3.front r3.back r2.back r3.bytes h3 in
    let r4 = r3.aft in
    let n1 = n.aft in
    let hn1 = bytes_second n.front n.back a.back n.bytes hn in
    let k1 = algorithm_carries f.1.0.1.0 r1.front r1.first (bytes_first r1.front r1.back r.back r1.bytes h1) r1.fore in
    let k2 = name_carries f.1.0.1.1.0 r2.front r2.first (bytes_first r2.front r2.back r1.back r2.bytes h2) r2.fore in
    let k4 = name_carries f.1.0.1.1.1.1.0 r4.front r4.first (bytes_first r4.front r4.back r3.back r4.bytes h4) r4.fore in
    let k5 = key_carries f.1.0.1.1.1.1.1 r4.back r4.second (bytes_second r4.front r4.back r3.back r4.bytes h4) r4.aft in
    let k6 = list_carries f.1.1.1.1 n1.back n1.second (bytes_second n1.front n1.back n.back n1.bytes hn1) n1.aft in
    let version_at : Reads (optional version_field) f.0 j.front = record { tally = j.first; spelled = j.fore } in
    let serial_at : Reads (tagged 2 integers) f.1.0.0 r.front = record { tally = r.first; spelled = r.fore } in
    let validity_at : Reads validity f.1.0.1.1.1.0 r3.front = record { tally = r3.first; spelled = r3.fore } in
    let issuer_id_at : Reads (optional issuer_id_field) f.1.1.0 n.front = record { tally = n.first; spelled = n.fore } in
    let subject_id_at : Reads (optional subject_id_field) f.1.1.1.0 n1.front = record { tally = n1.first; spelled = n1.fore } in
    let o4 = both names.name keys.public_key k4.value k5.value r4.front r4.back r3.back r4.bytes k4.reads k5.reads in
    let o3 = both validity holder f.1.0.1.1.1.0 (k4.value, k5.value) r3.front r3.back r2.back r3.bytes validity_at o4 in
    let o2 = both names.name from_validity k2.value (f.1.0.1.1.1.0, (k4.value, k5.value)) r2.front r2.back r1.back r2.bytes k2.reads o3 in
    let o1 = both algorithm from_issuer k1.value (k2.value, (f.1.0.1.1.1.0, (k4.value, k5.value))) r1.front r1.back r.back r1.bytes k1.reads o2 in
    let required : parts.RequiredFields A = (f.1.0.0, (k1.value, (k2.value, (f.1.0.1.1.1.0, (k4.value, k5.value))))) in
    let or = both (tagged 2 integers) from_algorithm f.1.0.0 required.1 r.front r.back a.front r.bytes serial_at o1 in
    let ending : parts.EndFields A = (f.1.1.0, (f.1.1.1.0, k6.value)) in
    let o6 = both (optional subject_id_field) (optional parts.extensions_field) f.1.1.1.0 k6.value n1.front n1.back n.back n1.bytes subject_id_at k6.reads in
    let on = both (optional issuer_id_field) from_subject_id f.1.1.0 ending.1 n.front n.back a.back n.bytes issuer_id_at o6 in
    let oa = both parts.required_fields parts.ends required ending a.front a.back j.back a.bytes or on in
    let g : parts.TbsFields A = (f.0, (required, ending)) in
    let oj = both (optional parts.version_field) parts.after_version f.0 g.1 j.front j.back s.content j.bytes version_at oa in
    let w = within 48 parts.tbs_inner g s.content p s.bytes oj in
    let pairs = lists_paired SameExtension f.1.1.1.1 k6.value k6.related in
    let fits = fit_same SameExtension f.0 f.1.1.0 f.1.1.1.0 (list_in f.1.1.1.1) (versions.list_in k6.value) pairs ∙ e in
    record {
      outline = parts.tbs_of g;
      reads = tbs_read g p fits w;
      same = record {
        slices = record {
          version = j.front;
          serial_number = r.front;
          signature = r1.front;
          issuer = r2.front;
          validity = r3.front;
          subject = r4.front;
          subject_public_key_info = r4.back;
          issuer_unique_id = n.front;
          subject_unique_id = n1.front;
          extensions = n1.back;
        };
        bytes = in_place p s.content j.front j.back a.front a.back r.front r.back r1.front r1.back r2.front r2.back r3.front r3.back r4.front r4.back n.front n.back n1.front n1.back s.bytes j.bytes a.bytes r.bytes r1.bytes r2.bytes r3.bytes r4.bytes n.bytes n1.bytes;
        alike = record {
          spelled = f.0;
          version_is = refl;
          version = version_same f.0;
          version_at = version_at;
          serial_number = refl;
          serial_number_at = serial_at;
          validity = refl;
          validity_at = validity_at;
          issuer_unique_id = refl;
          issuer_unique_id_at = issuer_id_at;
          subject_unique_id = refl;
          subject_unique_id_at = subject_id_at;
        };
        signature = k1.related;
        signature_at = (record { tally = r1.first; spelled = r1.fore }, k1.reads);
        issuer = k2.related;
        issuer_at = (record { tally = r2.first; spelled = r2.fore }, k2.reads);
        subject = k4.related;
        subject_at = (record { tally = r4.first; spelled = r4.fore }, k4.reads);
        key = k5.related;
        key_at = (record { tally = r4.second; spelled = r4.aft }, k5.reads);
        spelled = f.1.1.1.1;
        outlined = k6.value;
        extensions_are = refl;
        outlined_are = refl;
        extensions_at = (record { tally = n1.second; spelled = n1.aft }, k6.reads);
        extensions = pairs;
      };
    }

outlined : {A : Type 0} (c : TbsCertificate A) (p : List ℕ) (y : Tally) → AreBytes p → tbs_certificate.spelled c p y → Outlined c p
outlined {A} c p y h a =
    let m = means_tbs a.base c a.kinds a.means in
    let P : TbsCertificate A → Type 0 = λ v. Outlined v p in
    subst P m.1.0 (outlined_fields a.base p a.part h m.0 a.spelled)

-- what is signed, and the signature behind it
abbrev signed_and_signature : {A : Type 0} → Shape (outlines.CertificateFields A)
signed_and_signature = both_fields parts.tbs_certificate outlines.signature_fields

pub has_outline : {A : Type 0} (c : Certificate A) (string : List ℕ) → AreBytes string → Reads certificate c string → HasOutline c string
has_outline c string h d =
    let s = d.spelled in
    let j = s.spelled in
    let b = j.aft in
    let hc = bytes_content 48 s.content string s.bytes h in
    let t = outlined c.tbs_certificate j.front j.first (bytes_first j.front j.back s.content j.bytes hc) j.fore in
    let hb = bytes_second j.front j.back s.content j.bytes hc in
    let k = algorithm_carries c.signature_algorithm b.front b.first (bytes_first b.front b.back j.back b.bytes hb) b.fore in
    let signature_at : Reads (tagged 3 bit_strings) c.signature_value b.back = record { tally = b.second; spelled = b.aft } in
    let ob = both algorithm (tagged 3 bit_strings) k.value c.signature_value b.front b.back j.back b.bytes k.reads signature_at in
    let oj = both parts.tbs_certificate outlines.signature_fields t.outline (k.value, c.signature_value) j.front j.back s.content j.bytes t.reads ob in
    let w = within 48 signed_and_signature (t.outline, (k.value, c.signature_value)) s.content string s.bytes oj in
    record {
      outline = record { tbs_certificate = t.outline; signature_algorithm = k.value; signature_value = c.signature_value };
      reads = record { tally = w.tally; spelled = w.spelled };
      same = record {
        signed = j.front;
        algorithm = b.front;
        signature = b.back;
        bytes = s.bytes ∙ ap (element 48) (j.bytes ∙ ap (λ x. j.front ++ x) b.bytes);
        signed_at = (record { tally = j.first; spelled = j.fore }, t.reads);
        fields = t.same;
        signature_algorithm = k.related;
        algorithm_at = (record { tally = b.first; spelled = b.fore }, k.reads);
        signature_at = signature_at;
        signature_value = refl;
      };
    }
