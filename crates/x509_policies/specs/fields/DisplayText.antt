-- The alternative of DisplayText that was taken, written by tools/structures.py from declarations.asn1.
use Rattle.std.proofs.Common.{ℕ, List}
use Rattle.x509_der.specs.Tally.{Tally}
use Rattle.x509_der.specs.Fields.{Stands}
use Rattle.x509_der.specs.Tagged.{tagged}
use Rattle.x509_policies.specs.VisibleString.{are_visible}
use Rattle.x509_prim.specs.CharSets.{are_ascii, are_pairs}
use Rattle.x509_prim.specs.Texts.{Passes, texts, utf8_texts}
use Rattle.x509_policies.specs.declared.structures.display_text.DisplayText.{DisplayText}
use Rattle.x509_policies.specs.declared.structures.display_text.DisplayText.TheVariants as variant

abbrev pub DisplayTextAt : {A : Type 0} → DisplayText A → List ℕ → Tally → Type 0
DisplayTextAt (variant.Ia5String v) string y = Stands (tagged 22 (texts (Passes are_ascii))) v 0 string string y
DisplayTextAt (variant.VisibleString v) string y = Stands (tagged 26 (texts (Passes are_visible))) v 0 string string y
DisplayTextAt (variant.BmpString v) string y = Stands (tagged 30 (texts (Passes are_pairs))) v 0 string string y
DisplayTextAt (variant.Utf8String v) string y = Stands (tagged 12 utf8_texts) v 0 string string y
