use Rattle.x509_der.specs.Choice.{choice}
use Rattle.x509_der.specs.facts.FieldPlaces.{stands_parts, stands_first, stands_second}
use Rattle.x509_names_parts.specs.DirectoryStrings.{directory_parts, directory_base, printable_string, utf8_string, bmp_string}
use Rattle.x509_names_parts.specs.declared.directory_string.DirectoryString.TheVariants.{PrintableString, Utf8String, BmpString}
use Rattle.x509_names_parts.proofs.laws.directory_string_fields.Goals as goal

pub returns : goal.returns
returns g c (PrintableString v) string y a = stands_first printable_string (choice utf8_string bmp_string) v 0 string string y (stands_parts directory_parts directory_base (PrintableString v) 0 string string y (c.fields.ensures (PrintableString v) string y a))
returns g c (Utf8String v) string y a = stands_first utf8_string bmp_string v 0 string string y (stands_second printable_string (choice utf8_string bmp_string) _ 0 string string y (stands_parts directory_parts directory_base (Utf8String v) 0 string string y (c.fields.ensures (Utf8String v) string y a)))
returns g c (BmpString v) string y a = stands_second utf8_string bmp_string v 0 string string y (stands_second printable_string (choice utf8_string bmp_string) _ 0 string string y (stands_parts directory_parts directory_base (BmpString v) 0 string string y (c.fields.ensures (BmpString v) string y a)))
