-- What the form without unique identifiers spells, the full one spells with none.
use Rattle.std.specs.Prelude.{◌&&◌}
use Rattle.std.proofs.Common.{◌≡◌, ◌∙◌, refl, ap, sym, ℕ, Bool, true, List, [], ◌++◌, Option, Some, None}
use Rattle.x509_der.specs.Types.{Deviation}
use Rattle.x509_der.specs.Join.{Joined, join}
use Rattle.x509_der.specs.Optional.{optional}
use Rattle.x509_der.specs.Shape.{Shape}
use Rattle.x509_der.specs.Tally.{Tally, none}
use Rattle.x509_der.specs.facts.Tally.{none_joined}
use Rattle.x509_names.specs.Types.{Version}
use Rattle.x509_names.specs.Types.version.{V1, V2, V3}
use Rattle.x509_keys.specs.ReadIf.{read_if}
use Rattle.x509_keys.specs.facts.ReadIf.{was_read}
use Rattle.picky_asn1_x509_parts.specs.Extensions.{ExtensionFields}
use Rattle.picky_asn1_x509.specs.TbsCertificates.{TbsFields, issuer_id_field, subject_id_field, extensions_field, ends, tbs_inner, version_in, version_kinds, list_in, list_kinds, ids_fit, extensions_fit, tbs_of, tbs_means, tbs_certificate}
use Rattle.picky_asn1_x509.specs.OlderCertificates.{OlderFields, OlderTbs, older_inner, older_of, is_older, older_means, older_tbs, without_ids, OlderCertificate, older_certificate, certificate_without_ids}
use Rattle.picky_asn1_x509.specs.Certificates.{certificate}

-- nothing in front
none_before : {V W : Type 0} (a : Shape V) (b : Shape W) (w : W) (p : List ℕ) (y : Tally) → b.spelled w p y → Joined ((optional a).spelled None) (b.spelled w) p y
none_before a b w p y h = record { front = []; back = p; first = none; second = y; fore = (refl, refl); aft = h; bytes = refl; tally = sym (none_joined y) }

no_ids : (n : Version) → ids_fit {V = List Bool} {W = List Bool} n None None ≡ true
no_ids V1 = refl
no_ids V2 = refl
no_ids V3 = refl

-- the same fields, and no unique identifiers
abbrev wider : {A : Type 0} → OlderFields A → TbsFields A
wider f = (f.0, (f.1.0, (None, (None, f.1.1))))

abbrev later : {A : Type 0} → Shape (Option (List Bool) × Option (List (ExtensionFields A)))
later = join (λ j. j.0) (λ j. j.1) (optional subject_id_field) (optional extensions_field)

wider_end : {A : Type 0} (es : Option (List (ExtensionFields A))) (p : List ℕ) (y : Tally) → (optional extensions_field).spelled es p y → ends.spelled (None, (None, es)) p y
wider_end {A} es p y h =
    none_before issuer_id_field (later {A = A}) (None, es) p y
    (none_before subject_id_field (optional extensions_field) es p y h)

wider_inner : {A : Type 0} (f : OlderFields A) (p : List ℕ) (y : Tally) → older_inner.spelled f p y → tbs_inner.spelled (wider f) p y
wider_inner f p y j =
    let k = j.aft in
    record {
      front = j.front;
      back = j.back;
      first = j.first;
      second = j.second;
      fore = j.fore;
      aft = record {
        front = k.front;
        back = k.back;
        first = k.first;
        second = k.second;
        fore = k.fore;
        aft = wider_end f.1.1 k.back k.second k.aft;
        bytes = k.bytes;
        tally = k.tally;
      };
      bytes = j.bytes;
      tally = j.tally;
    }

wider_means : {A : Type 0} (f : OlderFields A) (v : OlderTbs A) (ks : List Deviation) → older_means f ≡ Some (v, ks) → tbs_means (wider f) ≡ Some (without_ids v, ks)
wider_means f v ks e =
    let n = version_in f.0 in
    let es = list_in f.1.1 in
    let ls = version_kinds f.0 ++ list_kinds f.1.1 in
    let m = was_read (is_older (older_of f)) (older_of f) v ls ks e in
    ap (λ t. read_if (t && extensions_fit n es) (tbs_of (wider f)) ls) (no_ids n)
    ∙ ap (λ t. read_if t (tbs_of (wider f)) ls) m.0
    ∙ ap (λ w. Some (without_ids w, ls)) m.1.0
    ∙ ap (λ l. Some (without_ids v, l)) m.1.1

pub older_is_spelled : {A : Type 0} (v : OlderTbs A) (string : List ℕ) (y : Tally) → older_tbs.spelled v string y → tbs_certificate.spelled (without_ids v) string y
older_is_spelled v string y a =
    let s = a.spelled in
    record {
      base = wider a.base;
      kinds = a.kinds;
      part = a.part;
      spelled = record { content = s.content; part = s.part; spelled = wider_inner a.base s.content s.part s.spelled; bytes = s.bytes; tally = s.tally };
      means = wider_means a.base v a.kinds a.means;
      tally = a.tally;
    }

pub older_whole_is_spelled : {A : Type 0} (v : OlderCertificate A) (string : List ℕ) (y : Tally) → older_certificate.spelled v string y → certificate.spelled (certificate_without_ids v) string y
older_whole_is_spelled v string y a =
    let j = a.spelled in
    record {
      content = a.content;
      part = a.part;
      spelled = record { front = j.front; back = j.back; first = j.first; second = j.second; fore = older_is_spelled v.0 j.front j.first j.fore; aft = j.aft; bytes = j.bytes; tally = j.tally };
      bytes = a.bytes;
      tally = a.tally;
    }
