-- The law of fields of DisplayText, written by tools/structures.py from declarations.asn1.
use Rattle.x509_der.specs.Choice.{choice}
use Rattle.x509_der.specs.facts.FieldPlaces.{stands_parts, stands_first, stands_second}
use Rattle.x509_der.specs.Tagged.{tagged}
use Rattle.x509_policies.specs.VisibleString.{are_visible}
use Rattle.x509_prim.specs.CharSets.{are_ascii, are_pairs}
use Rattle.x509_prim.specs.Texts.{Passes, texts, utf8_texts}
use Rattle.x509_policies.specs.DisplayText.{display_text_parts, display_text_base}
use Rattle.x509_policies.specs.declared.structures.display_text.DisplayText.TheVariants as variant
use Rattle.x509_policies.proofs.structures.laws.display_text_fields.Goals as goal

pub returns : goal.returns
returns g c (variant.Ia5String v) string y a = stands_first (tagged 22 (texts (Passes are_ascii))) (choice (tagged 26 (texts (Passes are_visible))) (choice (tagged 30 (texts (Passes are_pairs))) ((tagged 12 utf8_texts)))) v 0 string string y (stands_parts display_text_parts display_text_base (variant.Ia5String v) 0 string string y (c.fields.ensures (variant.Ia5String v) string y a))
returns g c (variant.VisibleString v) string y a = stands_first (tagged 26 (texts (Passes are_visible))) (choice (tagged 30 (texts (Passes are_pairs))) ((tagged 12 utf8_texts))) v 0 string string y (stands_second (tagged 22 (texts (Passes are_ascii))) (choice (tagged 26 (texts (Passes are_visible))) (choice (tagged 30 (texts (Passes are_pairs))) ((tagged 12 utf8_texts)))) _ 0 string string y (stands_parts display_text_parts display_text_base (variant.VisibleString v) 0 string string y (c.fields.ensures (variant.VisibleString v) string y a)))
returns g c (variant.BmpString v) string y a = stands_first (tagged 30 (texts (Passes are_pairs))) ((tagged 12 utf8_texts)) v 0 string string y (stands_second (tagged 26 (texts (Passes are_visible))) (choice (tagged 30 (texts (Passes are_pairs))) ((tagged 12 utf8_texts))) _ 0 string string y (stands_second (tagged 22 (texts (Passes are_ascii))) (choice (tagged 26 (texts (Passes are_visible))) (choice (tagged 30 (texts (Passes are_pairs))) ((tagged 12 utf8_texts)))) _ 0 string string y (stands_parts display_text_parts display_text_base (variant.BmpString v) 0 string string y (c.fields.ensures (variant.BmpString v) string y a))))
returns g c (variant.Utf8String v) string y a = stands_second (tagged 30 (texts (Passes are_pairs))) ((tagged 12 utf8_texts)) v 0 string string y (stands_second (tagged 26 (texts (Passes are_visible))) (choice (tagged 30 (texts (Passes are_pairs))) ((tagged 12 utf8_texts))) _ 0 string string y (stands_second (tagged 22 (texts (Passes are_ascii))) (choice (tagged 26 (texts (Passes are_visible))) (choice (tagged 30 (texts (Passes are_pairs))) ((tagged 12 utf8_texts)))) _ 0 string string y (stands_parts display_text_parts display_text_base (variant.Utf8String v) 0 string string y (c.fields.ensures (variant.Utf8String v) string y a))))
