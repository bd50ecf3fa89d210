-- The text of a directory string.
use Rattle.std.specs.Prelude.{ℕ, List, encode_utf8_all}
use Rattle.x509_prim.specs.Utf16.{lossy_chars}
use Rattle.x509_names_parts.specs.declared.directory_string.DirectoryString.{DirectoryString}
use Rattle.x509_names_parts.specs.declared.directory_string.DirectoryString.TheVariants.{PrintableString, Utf8String, BmpString}

-- the text, in UTF-8: the characters of a printable or UTF-8 string, which are spelled so already, and those of a BMP string
abbrev pub directory_text : {A : Type 0} → DirectoryString A → List ℕ
directory_text (PrintableString v) = v
directory_text (Utf8String v) = v
directory_text (BmpString v) = encode_utf8_all (lossy_chars v)

-- the content, without tag and length
abbrev pub directory_bytes : {A : Type 0} → DirectoryString A → List ℕ
directory_bytes (PrintableString v) = v
directory_bytes (Utf8String v) = v
directory_bytes (BmpString v) = v

-- the content is the text: no BMP string
abbrev pub HoldsText : {A : Type 0} → DirectoryString A → Type 0
HoldsText (PrintableString v) = Unit {0}
HoldsText (Utf8String v) = Unit {0}
HoldsText (BmpString v) = ⊥
