-- What the version of a certificate asks of its other fields, and what is left out (RFC 5280, 4.1.2.1, 4.1.2.8 and 4.1.2.9).
use Rattle.std.specs.Prelude.{◌≡◌, Bool, true, false, ◌&&◌, List, [], ◌∷◌, ◌++◌, Option, Some, None}
use Rattle.x509_der.specs.Types.{Deviation, ReadError}
use Rattle.x509_der.specs.Types.deviation
use Rattle.x509_der.specs.Types.read_error.{ExtensionsNeedV3, UniqueIdNeedsV2}
use Rattle.x509_names.specs.Types.{Version}
use Rattle.x509_names.specs.Types.version.{V1, V2, V3}

-- a version that is left out is version 1
abbrev pub version_in : Option Version → Version
version_in None = V1
version_in (Some v) = v

-- version 1 is left out (X.690, 11.5)
abbrev pub written_version : Version → Option Version
written_version V1 = None
written_version V2 = Some V2
written_version V3 = Some V3

-- version 1 that is spelled
abbrev pub version_kinds : Option Version → List Deviation
version_kinds None = []
version_kinds (Some V1) = deviation.VersionZeroSpelled ∷ []
version_kinds (Some V2) = []
version_kinds (Some V3) = []

-- a list that is left out is empty
abbrev pub list_in : {E : Type 0} → Option (List E) → List E
list_in None = []
list_in (Some es) = es

-- an empty list is left out
abbrev pub written_list : {E : Type 0} → List E → Option (List E)
written_list [] = None
written_list (e ∷ es) = Some (e ∷ es)

-- an empty list that is spelled
abbrev pub list_kinds : {E : Type 0} → Option (List E) → List Deviation
list_kinds None = []
list_kinds (Some []) = deviation.EmptyExtensionsSpelled ∷ []
list_kinds (Some (e ∷ es)) = []

abbrev pub is_absent : {V : Type 0} → Option V → Bool
is_absent None = true
is_absent (Some v) = false

abbrev pub is_nil : {E : Type 0} → List E → Bool
is_nil [] = true
is_nil (e ∷ es) = false

-- unique identifiers need version 2 or 3 (RFC 5280, 4.1.2.8)
abbrev pub ids_fit : {V W : Type 0} → Version → Option V → Option W → Bool
ids_fit V1 issuer subject = is_absent issuer && is_absent subject
ids_fit V2 issuer subject = true
ids_fit V3 issuer subject = true

-- extensions need version 3 (RFC 5280, 4.1.2.9)
abbrev pub extensions_fit : {E : Type 0} → Version → List E → Bool
extensions_fit V1 es = is_nil es
extensions_fit V2 es = is_nil es
extensions_fit V3 es = true

-- why fields are refused that don't fit their version: for the identifiers, or else for the extensions
abbrev pub refusal_where : Bool → ReadError
refusal_where true = ExtensionsNeedV3
refusal_where false = UniqueIdNeedsV2

-- the value with its deviations, where the test is passed; else nothing
abbrev pub read_if : {V : Type 0} → Bool → V → List Deviation → Option (V × List Deviation)
read_if true v ks = Some (v, ks)
read_if false v ks = None

-- of extensions that are gone past it is kept whether the list is empty: no extension, or an empty list of them
abbrev pub gone_empty : Option Bool → Bool
gone_empty None = true
gone_empty (Some e) = e

abbrev pub gone_fit : Version → Option Bool → Bool
gone_fit V1 e = gone_empty e
gone_fit V2 e = gone_empty e
gone_fit V3 e = true

abbrev pub gone_kinds : Option Bool → List Deviation
gone_kinds None = []
gone_kinds (Some true) = deviation.EmptyExtensionsSpelled ∷ []
gone_kinds (Some false) = []
