-- A text to be shown (RFC 5280, 4.2.1.4).
use Rattle.std.specs.Prelude.{ℕ, List}
use Rattle.x509_der.specs.Types.{Choice}
use Rattle.x509_der.specs.Types.choice.{First, Second}
use Rattle.x509_der.specs.Shape.{Shape}
use Rattle.x509_der.specs.Tagged.{tagged}
use Rattle.x509_der.specs.Choice.{choice}
use Rattle.x509_der.specs.Structure.{structure}
use Rattle.x509_prim.specs.CharSets.{are_ascii, are_pairs}
use Rattle.x509_prim.specs.Texts.{Passes, texts, utf8_texts}
use Rattle.x509_policies.specs.VisibleString.{are_visible}
use Rattle.x509_policies.specs.declared.structures.display_text.DisplayText.{DisplayText}
use Rattle.x509_policies.specs.declared.structures.display_text.DisplayText.TheVariants as text

-- the bytes of each kind
abbrev pub Text : Type 0
Text = List ℕ

abbrev pub Fields : Type 0 → Type 0
Fields A = Choice Text (Choice Text (Choice Text Text))

abbrev pub display_text_parts : {A : Type 0} → DisplayText A → Fields A
display_text_parts (text.Ia5String v) = First v
display_text_parts (text.VisibleString v) = Second (First v)
display_text_parts (text.BmpString v) = Second (Second (First v))
display_text_parts (text.Utf8String v) = Second (Second (Second v))

-- CHOICE { ia5String IA5String, visibleString VisibleString, bmpString BMPString, utf8String UTF8String }: tags 16, 1A, 1E and
-- 0C. The standard's SIZE (1..200) isn't asked
abbrev pub display_text_base : Shape (Choice Text (Choice Text (Choice Text Text)))
display_text_base =
    choice (tagged 22 (texts (Passes are_ascii)))
    (choice (tagged 26 (texts (Passes are_visible)))
    (choice (tagged 30 (texts (Passes are_pairs))) (tagged 12 utf8_texts)))

abbrev pub display_text : {A : Type 0} → Shape (DisplayText A)
display_text = structure display_text_parts display_text_base
