-- A walk over an extension.
use Rattle.std.proofs.Common.{◌≡◌, ℕ, ◌+◌, List, [], ◌++◌, length, refl, sym, ap, ◌∙◌, append-nil, lit<, arith, length-append}
use Rattle.x509_der.specs.Boolean.{booleans}
use Rattle.x509_der.specs.Element.{header}
use Rattle.x509_der.specs.ObjectIdentifier.{oids}
use Rattle.x509_der.specs.Tagged.{tagged}
use Rattle.x509_der.specs.Tally.{Tally}
use Rattle.x509_der.specs.laws.Tagged.{tagged_element}
use Rattle.picky_asn1_x509.specs.Extensions.{ExtensionFields, ExtensionAt, by_kind, kind_of}
use Rattle.x509_fields.specs.Extensions.{ExtensionIn, extension_spans}
use Rattle.x509_fields.specs.Walks.{Walk, Steps, StepsIf}
use Rattle.x509_fields.specs.declared.extension.ExtensionFields.{ExtensionFields as Places}
use Rattle.x509_fields.specs.facts.Chains.{Passes, passes_none, passes_one, passes_if, to_end, fill_all}
use Rattle.x509_fields.specs.facts.Fields.{Before, at_front, at_back, field_step, raw_step, optional_step, element_raw, element_follows}

-- the walk before the first step, and behind each of the three, with what each found
pub record ExtensionWalk (at : Places) : Type 0 where
  pub w : Walk
  pub w1 : Walk
  pub w2 : Walk
  pub w3 : Walk
  pub t1 : Steps w w1 at.extn_id
  pub t2 : StepsIf 1 w1 w2 at.critical
  pub t3 : Steps w2 w3 at.extn_value

extension_passes : (at : Places) (k : ExtensionWalk at) → Passes k.w k.w3 (extension_spans at)
extension_passes at k =
    passes_one k.w k.w1 k.w3 at.extn_id _ k.t1
    (passes_if 1 k.w1 k.w2 k.w3 at.critical _ k.t2
    (passes_one k.w2 k.w3 k.w3 at.extn_value _ k.t3 (passes_none k.w3)))

pub walked_extension : {A : Type 0} (at : Places) (k : ExtensionWalk at) (v : ExtensionFields A) (string : List ℕ) (y : Tally) → (a : ExtensionAt v string y) → k.w.rest ≡ a.content → k.w.at ≡ header a.content → ExtensionIn v at string y
walked_extension at k v string y a rest start =
    let m = header a.content in
    let q = a.values ++ [] in
    let b0 : Before k.w m a.content [] = record { rest = rest ∙ sym (append-nil a.content); at = start } in
    let b1 = at_front k.w m a.keys a.ids a.flags q a.key_fields (at_front k.w m a.content a.keys a.values [] a.fields b0) in
    let r1 = field_step (tagged 6 oids) (tagged_element 6 oids refl (lit< tt)) v.extn_id m a.ids (a.flags ++ q) string y k.w k.w1 at.extn_id a.id_at b1 k.t1 in
    let m1 = m + length a.ids in
    let r2 = optional_step 1 booleans refl (lit< tt) a.spelled m1 a.flags q string y k.w1 k.w2 at.critical a.critical_at (at_back k.w1 m a.ids a.flags q r1.behind) (element_follows 1 4 a.octets a.values [] refl a.value_bytes) k.t2 in
    let m2 = m + length a.keys in
    let b3 : Before k.w2 m2 a.values [] = record { rest = r2.behind.rest; at = omega (arith, r2.behind.at, ap length a.key_fields, length-append a.ids a.flags) } in
    let r3 = raw_step (by_kind (kind_of v.extn_id)) v.extn_value m2 a.values [] string y k.w2 k.w3 at.extn_value (element_raw 4 a.octets a.values refl (lit< tt) a.value_bytes) a.value_at.field b3 k.t3 in
    let all = to_end k.w k.w3 (extension_spans at) (extension_passes at k) r3.behind.rest in
    record {
      critical = a.spelled;
      critical_means = a.means;
      extn_id = r1.field;
      critical_at = r2.field;
      extn_value = r3.field;
      fill = fill_all string a.content (extension_spans at) k.w a.bytes rest start all;
    }
