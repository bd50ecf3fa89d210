-- What names print.
use Rattle.std.specs.Prelude.{ℕ, Bool, false, if◌then◌else◌, List, [], ◌∷◌, ◌++◌, map, codes, flat_map}
use Rattle.std.specs.List.{join_with_byte}
use Rattle.hex.specs.Hex.{encode_lower}
use Rattle.x509_der.specs.ObjectIdentifier.{dotted}
use Rattle.x509_names_parts.specs.DirectoryTexts.{directory_text}
use Rattle.x509_names.specs.declared.attribute_type_and_value.AttributeTypeAndValue.{AttributeTypeAndValue}
use Rattle.x509_names.specs.declared.attribute_value.AttributeTypeAndValueParameters.{AttributeTypeAndValueParameters}
use Rattle.x509_names.specs.declared.attribute_value.AttributeTypeAndValueParameters.TheVariants as value
use Rattle.x509_names.specs.Names.{Sets}

-- the label of a value's variant, `=` and its text; of a custom one the dotted type, `=#` and the element in lower-case hexadecimal. Nothing is escaped
abbrev pub value_text : {A : Type 0} → List ℕ → AttributeTypeAndValueParameters A → List ℕ
value_text ty (value.CommonName d) = codes "CN=" ++ directory_text d
value_text ty (value.Surname d) = codes "SURNAME=" ++ directory_text d
value_text ty (value.SerialNumber d) = codes "SN=" ++ directory_text d
value_text ty (value.CountryName d) = codes "C=" ++ directory_text d
value_text ty (value.LocalityName d) = codes "L=" ++ directory_text d
value_text ty (value.StateOrProvinceName d) = codes "ST=" ++ directory_text d
value_text ty (value.StreetName d) = codes "STREET NAME=" ++ directory_text d
value_text ty (value.OrganizationName d) = codes "O=" ++ directory_text d
value_text ty (value.OrganizationalUnitName d) = codes "OU=" ++ directory_text d
value_text ty (value.EmailAddress s) = codes "EMAIL=" ++ s
value_text ty (value.GivenName d) = codes "GIVENNAME=" ++ directory_text d
value_text ty (value.Phone d) = codes "PHONE=" ++ directory_text d
value_text ty (value.Custom element) = dotted ty ++ (codes "=#" ++ encode_lower element)

unfoldable pub attribute_text : {A : Type 0} → AttributeTypeAndValue A → List ℕ
attribute_text a = value_text a.ty a.value

-- the texts of all attributes of all sets, in order, with commas between them
unfoldable pub name_text : {A : Type 0} → Sets A → List ℕ
name_text sets = join_with_byte 44 (map attribute_text (flat_map (λ set. set) sets))

-- what stands before an attribute: a comma, but for the first
abbrev pub lead : Bool → List ℕ
lead first = if first then [] else 44 ∷ []

-- the texts of attributes, the first of which is the first of all or isn't
abbrev pub texts : {A : Type 0} → Bool → List (AttributeTypeAndValue A) → List ℕ
texts first [] = []
texts first (x ∷ xs) = lead first ++ (attribute_text x ++ texts false xs)
