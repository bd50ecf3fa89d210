-- Facts about DisplayText, written by tools/structures.py from declarations.asn1.
use Rattle.std.proofs.Common.{◌≡◌, ℕ, ◌||◌, eqb, true, false, refl, arith}
use Rattle.std.proofs.lemmas.Bool.Decides.{nat_tests}
use Rattle.x509_der.specs.Types.choice.{First, Second}
use Rattle.x509_der.specs.facts.Lists.{same_one}
use Rattle.x509_policies.specs.declared.structures.display_text.DisplayText.{DisplayText}
use Rattle.x509_policies.specs.DisplayText.{Fields, display_text_parts}
use Rattle.x509_policies.specs.declared.structures.display_text.DisplayText.TheVariants as variant

abbrev pub display_text_of : {A : Type 0} → Fields A → DisplayText A
display_text_of (First v) = variant.Ia5String v
display_text_of (Second (First v)) = variant.VisibleString v
display_text_of (Second (Second (First v))) = variant.BmpString v
display_text_of (Second (Second (Second v))) = variant.Utf8String v

display_text_made : {A : Type 0} (v : DisplayText A) → display_text_of (display_text_parts v) ≡ v
display_text_made (variant.Ia5String v) = refl
display_text_made (variant.VisibleString v) = refl
display_text_made (variant.BmpString v) = refl
display_text_made (variant.Utf8String v) = refl

pub display_text_same : {A : Type 0} (v w : DisplayText A) → display_text_parts v ≡ display_text_parts w → v ≡ w
display_text_same = same_one display_text_parts display_text_of display_text_made

pub display_text_whole : (A : Type 0) (f : Fields A) → display_text_parts (display_text_of {A = A} f) ≡ f
display_text_whole A (First v) = refl
display_text_whole A (Second (First v)) = refl
display_text_whole A (Second (Second (First v))) = refl
display_text_whole A (Second (Second (Second v))) = refl

pub display_text_ia5_string_apart : (c : ℕ) → eqb c 22 ≡ true → (eqb c 26 || (eqb c 30 || eqb c 12)) ≡ false
display_text_ia5_string_apart c h = grind (arith, nat_tests)

pub display_text_visible_string_apart : (c : ℕ) → eqb c 26 ≡ true → (eqb c 30 || eqb c 12) ≡ false
display_text_visible_string_apart c h = grind (arith, nat_tests)

pub display_text_bmp_string_apart : (c : ℕ) → eqb c 30 ≡ true → eqb c 12 ≡ false
display_text_bmp_string_apart c h = grind (arith, nat_tests)
