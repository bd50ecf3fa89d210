-- A name has an outline: each attribute's value is one element.
use Rattle.std.proofs.Common.{ℕ, List, refl, lit<}
use Rattle.x509_der.specs.Element.{IsRaw}
use Rattle.x509_der.specs.Items.{items}
use Rattle.x509_der.specs.ObjectIdentifier.{oids}
use Rattle.x509_der.specs.RawElement.{raws}
use Rattle.x509_der.specs.Tagged.{tagged}
use Rattle.x509_der.specs.Tally.{Tally}
use Rattle.x509_prim.specs.CharSets.{are_ascii, are_printable, are_pairs}
use Rattle.x509_prim.specs.Texts.{Passes, texts, utf8_texts}
use Rattle.x509_names.specs.DirectoryStrings.{directory_string}
use Rattle.x509_names.specs.Types.{DirectoryString}
use Rattle.x509_names.specs.Types.directory_string.{PrintableString, Utf8String, BmpString}
use Rattle.x509_names.specs.Attributes.{attribute, by_kind, kind_of}
use Rattle.x509_names.specs.Names.{name, name_content, relative_name}
use Rattle.x509_names.specs.declared.attribute_value.AttributeKind.{AttributeKind}
use Rattle.x509_names.specs.declared.attribute_value.AttributeKind.TheVariants as kind
use Rattle.x509_names.specs.declared.attribute_value.AttributeTypeAndValueParameters.{AttributeTypeAndValueParameters}
use Rattle.x509_outline_parts.specs.Attributes as outlines
use Rattle.x509_outline_parts.specs.Names as names
use Rattle.x509_outline_laws.specs.Frames.{Pairs, SameType}
use Rattle.x509_outline_laws.proofs.Carrying.{Carries, tagged_carries, items_carries, as_it_is, both, within, under_tag, bytes_second, bytes_content}

text_raw : {A : Type 0} (v : DirectoryString A) (p : List ℕ) (y : Tally) → directory_string.spelled v p y → IsRaw p
text_raw (PrintableString v) p y a = under_tag 19 (texts (Passes are_printable)) v p y refl (lit< tt) a
text_raw (Utf8String v) p y a = under_tag 12 utf8_texts v p y refl (lit< tt) a
text_raw (BmpString v) p y a = under_tag 30 (texts (Passes are_pairs)) v p y refl (lit< tt) a

value_raw : {A : Type 0} (k : AttributeKind) (v : AttributeTypeAndValueParameters A) (p : List ℕ) (y : Tally) → (by_kind k).spelled v p y → IsRaw p
value_raw (kind.Text t) v p y a = text_raw a.payload p y a.spelled
value_raw kind.Email v p y a = under_tag 22 (texts (Passes are_ascii)) a.payload p y refl (lit< tt) a.spelled
value_raw kind.Other v p y a = a.spelled.is

attribute_carries : {A : Type 0} → Carries (attribute {A = A}) (outlines.attribute {A = A}) SameType
attribute_carries v p y h s =
    let j = s.spelled in
    let c = bytes_content 48 s.content p s.bytes h in
    let k = as_it_is j.back (bytes_second j.front j.back s.content j.bytes c) (value_raw (kind_of v.ty) v.value j.back j.second j.aft) in
    let i = both (tagged 6 oids) raws v.ty j.back j.front j.back s.content j.bytes (record { tally = j.first; spelled = j.fore }) k in
    let w = within 48 outlines.attribute_inner (v.ty, j.back) s.content p s.bytes i in
    record {
      value = record { attribute_type = v.ty; value = j.back };
      reads = record { tally = w.tally; spelled = w.spelled };
      related = refl;
    }

set_carries : {A : Type 0} → Carries (relative_name {A = A}) (names.relative_name {A = A}) (Pairs SameType)
set_carries {A} = tagged_carries (items (attribute {A = A})) (items (outlines.attribute {A = A})) (Pairs SameType) (items_carries (attribute {A = A}) (outlines.attribute {A = A}) SameType attribute_carries) 49

pub name_carries : {A : Type 0} → Carries (name {A = A}) (names.name {A = A}) (Pairs (Pairs SameType))
name_carries {A} = tagged_carries (name_content {A = A}) (items (names.relative_name {A = A})) (Pairs (Pairs SameType)) (items_carries (relative_name {A = A}) (names.relative_name {A = A}) (Pairs SameType) set_carries) 48
