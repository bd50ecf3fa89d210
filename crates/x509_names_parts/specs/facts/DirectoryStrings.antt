-- The three kinds of directory strings.
use Rattle.std.proofs.Common.{◌≡◌, ℕ, ◌||◌, eqb, true, false, refl, arith}
use Rattle.std.proofs.lemmas.Bool.Decides.{nat_tests}
use Rattle.x509_der.specs.Types.{Choice}
use Rattle.x509_der.specs.Types.choice.{First, Second}
use Rattle.x509_names_parts.specs.declared.directory_string.DirectoryString.{DirectoryString}
use Rattle.x509_names_parts.specs.declared.directory_string.DirectoryString.TheVariants.{PrintableString, Utf8String, BmpString}
use Rattle.x509_der.specs.facts.Lists.{same_one}
use Rattle.x509_names_parts.specs.DirectoryStrings.{Text, directory_parts}

abbrev pub directory_of : {A : Type 0} → Choice Text (Choice Text Text) → DirectoryString A
directory_of (First v) = PrintableString v
directory_of (Second (First v)) = Utf8String v
directory_of (Second (Second v)) = BmpString v

directory_made : {A : Type 0} (v : DirectoryString A) → directory_of (directory_parts v) ≡ v
directory_made (PrintableString v) = refl
directory_made (Utf8String v) = refl
directory_made (BmpString v) = refl

pub directory_same : {A : Type 0} (v w : DirectoryString A) → directory_parts v ≡ directory_parts w → v ≡ w
directory_same = same_one directory_parts directory_of directory_made

pub directory_whole : (A : Type 0) (f : Choice Text (Choice Text Text)) → directory_parts (directory_of {A = A} f) ≡ f
directory_whole A (First v) = refl
directory_whole A (Second (First v)) = refl
directory_whole A (Second (Second v)) = refl

pub unicode_apart : (c : ℕ) → eqb c 12 ≡ true → eqb c 30 ≡ false
unicode_apart c h = grind (arith, nat_tests)

pub printable_apart : (c : ℕ) → eqb c 19 ≡ true → (eqb c 12 || eqb c 30) ≡ false
printable_apart c h = grind (arith, nat_tests)
