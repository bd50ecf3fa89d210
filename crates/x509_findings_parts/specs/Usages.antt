-- What is asked of a key usage (RFC 5280, 4.2.1.3).
use Rattle.std.specs.Prelude.{Bool, true, false, not, ◌-◌, List, [], ◌∷◌, length, slice_index_or}
use Rattle.std.specs.List.{list_any}
use Rattle.picky_asn1_x509_parts.specs.declared.extension_value.ExtensionValue.{ExtensionValue}
use Rattle.picky_asn1_x509_parts.specs.declared.extension_value.ExtensionValue.TheVariants as value

-- none of the bits is set that have names, of which one at least must be (4.2.1.3)
abbrev pub are_unset : List Bool → Bool
are_unset bits = not (list_any (λ place. slice_index_or bits place false) (0 ∷ 1 ∷ 2 ∷ 3 ∷ 4 ∷ 5 ∷ 6 ∷ 7 ∷ 8 ∷ []))

-- there is a last bit, and it isn't set: of a list of named bits, DER has no trailing zero bits (X.690, 11.2.2)
abbrev pub end_unset : List Bool → Bool
end_unset bits = not (slice_index_or bits (length bits - 1) true)

abbrev pub allows_nothing : {A : Type 0} → ExtensionValue A → Bool
allows_nothing (value.KeyUsage bits) = are_unset bits
allows_nothing v = false

abbrev pub ends_unset : {A : Type 0} → ExtensionValue A → Bool
ends_unset (value.KeyUsage bits) = end_unset bits
ends_unset v = false
