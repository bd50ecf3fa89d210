-- An extension has an outline: values of every kind are octets.
use Rattle.std.proofs.Common.{◌≡◌, ℕ, Bool, List, ◌++◌, Option, Some, None, length, refl, ap, ◌∙◌, append_assoc}
use Rattle.x509_der.specs.Boolean.{booleans}
use Rattle.x509_der.specs.Element.{AreBytes, element}
use Rattle.x509_der.specs.Items.{items}
use Rattle.x509_der.specs.FirstField.{both_fields}
use Rattle.x509_der.specs.ObjectIdentifier.{oids}
use Rattle.x509_der.specs.Optional.{optional}
use Rattle.x509_der.specs.PrimitiveContent.{octets}
use Rattle.x509_der.specs.Tagged.{tagged}
use Rattle.x509_der.specs.Tally.{Tally, none, marked}
use Rattle.picky_asn1_x509_parts.specs.Extensions.{ExtensionFields, extension, extension_of, critical_of, critical_kinds, by_kind, kind_of}
use Rattle.picky_asn1_x509_parts.specs.declared.extension_value.ExtensionKind.{ExtensionKind}
use Rattle.picky_asn1_x509_parts.specs.declared.extension_value.ExtensionKind.TheVariants as kinds
use Rattle.picky_asn1_x509_parts.specs.declared.extension_value.ExtensionValue.{ExtensionValue}
use Rattle.picky_asn1_x509.specs.TbsCertificates.{extensions_field}
use Rattle.x509_outline_parts.specs.Extensions as outlines
use Rattle.x509_outline.specs.TbsCertificates as parts
use Rattle.x509_outline_laws.specs.Frames.{Reads, Pairs, SameExtension}
use Rattle.x509_outline_laws.proofs.Carrying.{Carries, BothIf, tagged_carries, items_carries, optional_carries, both, within, bytes_second, bytes_content, found_value}

-- an OCTET STRING
record IsOctets (p : List ℕ) : Type 0 where
  pub content : List ℕ
  pub bytes : p ≡ element 4 content

value_octets : {A : Type 0} (k : ExtensionKind) (v : ExtensionValue A) (p : List ℕ) (y : Tally) → (by_kind k).spelled v p y → IsOctets p
value_octets kinds.AuthorityKeyIdentifier v p y a = record { content = a.spelled.content; bytes = a.spelled.bytes }
value_octets kinds.SubjectKeyIdentifier v p y a = record { content = a.spelled.content; bytes = a.spelled.bytes }
value_octets kinds.KeyUsage v p y a = record { content = a.spelled.content; bytes = a.spelled.bytes }
value_octets kinds.SubjectAltName v p y a = record { content = a.spelled.content; bytes = a.spelled.bytes }
value_octets kinds.IssuerAltName v p y a = record { content = a.spelled.content; bytes = a.spelled.bytes }
value_octets kinds.BasicConstraints v p y a = record { content = a.spelled.content; bytes = a.spelled.bytes }
value_octets kinds.ExtendedKeyUsage v p y a = record { content = a.spelled.content; bytes = a.spelled.bytes }
value_octets kinds.Generic v p y a = record { content = a.spelled.content; bytes = a.spelled.bytes }
value_octets kinds.CrlNumber v p y a = record { content = a.spelled.content; bytes = a.spelled.bytes }

octets_read : (p : List ℕ) (o : IsOctets p) → AreBytes p → Reads (tagged 4 octets) o.content p
octets_read p o h = within 4 octets o.content o.content p o.bytes (record { tally = none; spelled = (((bytes_content 4 o.content p o.bytes h, tt), refl), refl) })

-- three slices one behind another
regrouped : (string keys values ids flags : List ℕ) → string ≡ keys ++ values → keys ≡ ids ++ flags → string ≡ ids ++ (flags ++ values)
regrouped string keys values ids flags e f = e ∙ ap (λ x. x ++ values) f ∙ append_assoc ids flags values

same_critical : (o : Option Bool) → outlines.critical_of o ≡ critical_of o
same_critical None = refl
same_critical (Some b) = refl

extension_carries : {A : Type 0} → Carries (extension {A = A}) (outlines.extension {A = A}) SameExtension
extension_carries v p y h a =
    let s = a.spelled in
    let j = s.spelled in
    let b = a.base in
    let c = bytes_content 48 s.content p s.bytes h in
    let o = value_octets (kind_of b.0.0) b.1 j.back j.second j.aft in
    let r = octets_read j.back o (bytes_second j.front j.back s.content j.bytes c) in
    let k = j.fore in
    let flags = optional (tagged 1 booleans) in
    let m = both flags (tagged 4 octets) b.0.1 o.content k.back j.back (k.back ++ j.back) refl (record { tally = k.second; spelled = k.aft }) r in
    let rest = both_fields flags (tagged 4 octets) in
    let i = both (tagged 6 oids) rest b.0.0 (b.0.1, o.content) k.front (k.back ++ j.back) s.content (regrouped s.content j.front j.back k.front k.back j.bytes k.bytes) (record { tally = k.first; spelled = k.fore }) m in
    let f : outlines.Fields = (b.0.0, (b.0.1, o.content)) in
    let w = within 48 outlines.extension_inner f s.content p s.bytes i in
    let e = found_value (extension_of b) v (critical_kinds b.0.1) a.kinds a.means in
    let es = outlines.critical_kinds b.0.1 in
    record {
      value = outlines.extension_of f;
      reads = record {
        tally = marked es (length p) w.tally;
        spelled = record { base = f; kinds = es; part = w.tally; spelled = w.spelled; means = refl; tally = refl };
      };
      related = (ap (λ (x : ExtensionFields _). x.extn_id) e, same_critical b.0.1 ∙ ap (λ (x : ExtensionFields _). x.critical) e);
    }

-- where extensions are, and where none are
pub list_carries : {A : Type 0} → Carries (optional (extensions_field {A = A})) (optional (parts.extensions_field {A = A})) (BothIf (Pairs SameExtension))
list_carries {A} =
    let each = items_carries (extension {A = A}) (outlines.extension {A = A}) SameExtension extension_carries in
    let inner = tagged_carries (items (extension {A = A})) (items (outlines.extension {A = A})) (Pairs SameExtension) each 48 in
    let outer = tagged_carries (tagged 48 (items (extension {A = A}))) (tagged 48 (items (outlines.extension {A = A}))) (Pairs SameExtension) inner 163 in
    optional_carries (extensions_field {A = A}) (parts.extensions_field {A = A}) (Pairs SameExtension) outer
