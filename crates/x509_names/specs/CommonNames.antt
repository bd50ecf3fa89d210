-- The common name of a name.
use Rattle.std.specs.Prelude.{List, [], ◌∷◌, Option, Some, None}
use Rattle.x509_names_parts.specs.declared.directory_string.DirectoryString.{DirectoryString}
use Rattle.x509_names.specs.declared.attribute_value.AttributeTypeAndValueParameters.{AttributeTypeAndValueParameters}
use Rattle.x509_names.specs.Names.{Set, Sets}
use Rattle.x509_names.specs.declared.attribute_value.AttributeTypeAndValueParameters.TheVariants as value

-- the directory string of a common name
abbrev pub common_name_of : {A : Type 0} → AttributeTypeAndValueParameters A → Option (DirectoryString A)
common_name_of (value.CommonName d) = Some d
common_name_of (value.Surname d) = None
common_name_of (value.SerialNumber d) = None
common_name_of (value.CountryName d) = None
common_name_of (value.LocalityName d) = None
common_name_of (value.StateOrProvinceName d) = None
common_name_of (value.StreetName d) = None
common_name_of (value.OrganizationName d) = None
common_name_of (value.OrganizationalUnitName d) = None
common_name_of (value.EmailAddress i) = None
common_name_of (value.GivenName d) = None
common_name_of (value.Phone d) = None
common_name_of (value.Custom r) = None

abbrev pub if_none : {X : Type 0} → Option X → Option X → Option X
if_none None o = o
if_none (Some x) o = Some x

-- what the first item gives that gives anything
abbrev pub first_some : {X Y : Type 0} → (X → Option Y) → List X → Option Y
first_some f [] = None
first_some f (x ∷ xs) = if_none (f x) (first_some f xs)

-- the first common name of a set
abbrev pub first_of_set : {A : Type 0} → Set A → Option (DirectoryString A)
first_of_set set = first_some (λ a. common_name_of a.value) set

-- the first common name of a name: of the first set that has one
abbrev pub first_common_name : {A : Type 0} → Sets A → Option (DirectoryString A)
first_common_name sets = first_some first_of_set sets
