-- The text of an attribute in a name.
use Rattle.std.specs.Prelude.{ℕ, List}
use Rattle.x509_der.specs.Types.{Choice}
use Rattle.x509_der.specs.Types.choice.{First, Second}
use Rattle.x509_names_parts.specs.declared.directory_string.DirectoryString.{DirectoryString}
use Rattle.x509_names_parts.specs.declared.directory_string.DirectoryString.TheVariants.{PrintableString, Utf8String, BmpString}
use Rattle.x509_der.specs.Tally.{Tally}
use Rattle.x509_der.specs.Shape.{Shape}
use Rattle.x509_der.specs.Tagged.{tagged}
use Rattle.x509_der.specs.Choice.{choice}
use Rattle.x509_der.specs.Structure.{structure}
use Rattle.x509_der.specs.Fields.{Stands}
use Rattle.x509_prim.specs.Texts.{Passes, texts, utf8_texts}
use Rattle.x509_prim.specs.CharSets.{are_printable, are_pairs}

-- the bytes of each kind
abbrev pub Text : Type 0
Text = List ℕ

abbrev pub directory_parts : {A : Type 0} → DirectoryString A → Choice Text (Choice Text Text)
directory_parts (PrintableString v) = First v
directory_parts (Utf8String v) = Second (First v)
directory_parts (BmpString v) = Second (Second v)

abbrev pub printable_string : Shape Text
printable_string = tagged 19 (texts (Passes are_printable))

abbrev pub utf8_string : Shape Text
utf8_string = tagged 12 utf8_texts

abbrev pub bmp_string : Shape Text
bmp_string = tagged 30 (texts (Passes are_pairs))

-- CHOICE { printableString PrintableString, utf8String UTF8String, bmpString BMPString } (RFC 5280, 4.1.2.4). The standard's teletexString and
-- universalString are no alternatives here, and an empty string is one, which the standard's SIZE (1..MAX) leaves out
abbrev pub directory_base : Shape (Choice Text (Choice Text Text))
directory_base = choice printable_string (choice utf8_string bmp_string)

abbrev pub directory_string : {A : Type 0} → Shape (DirectoryString A)
directory_string = structure directory_parts directory_base

-- the alternative that was taken
abbrev pub StringAt : {A : Type 0} → DirectoryString A → List ℕ → Tally → Type 0
StringAt (PrintableString v) string y = Stands printable_string v 0 string string y
StringAt (Utf8String v) string y = Stands utf8_string v 0 string string y
StringAt (BmpString v) string y = Stands bmp_string v 0 string string y
