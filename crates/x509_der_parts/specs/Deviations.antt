-- Counts of deviations.
use Rattle.std.specs.Prelude.{◌≡◌, ℕ, ◌+◌, ◌<◌, ◌^◌, List, [], ◌∷◌, length, map, sum, slice_index, codes}
use Rattle.x509_der_parts.specs.declared.deviation.Deviation.{Deviation}
use Rattle.x509_der_parts.specs.declared.deviation.Deviation.TheVariants.{RsaParametersAbsent, RawParametersAbsent, HashNullAbsent, SaltTooLarge, VersionZeroSpelled, EmptyExtensionsSpelled, CriticalFalseSpelled, AuthorityKeyFieldOrder, GeneralNameForm, SkippedKeyElement}

-- ten counts, whose sum fits a usize
pub record IsCounts (counts : List ℕ) : Type 0 where
  pub ten : length counts ≡ 10
  pub fits : sum counts < 2 ^ 64

-- counts are together those of the whole, kind by kind
abbrev pub Together : List ℕ → List ℕ → List ℕ → Type 0
Together a b whole = (kind : ℕ) → slice_index a kind + slice_index b kind ≡ slice_index whole kind

-- a kind's place among the ten, from 0
abbrev pub kind_index : Deviation → ℕ
kind_index RsaParametersAbsent = 0
kind_index RawParametersAbsent = 1
kind_index HashNullAbsent = 2
kind_index SaltTooLarge = 3
kind_index VersionZeroSpelled = 4
kind_index EmptyExtensionsSpelled = 5
kind_index CriticalFalseSpelled = 6
kind_index AuthorityKeyFieldOrder = 7
kind_index GeneralNameForm = 8
kind_index SkippedKeyElement = 9

-- a kind's name in plain words
abbrev pub kind_name : Deviation → List ℕ
kind_name RsaParametersAbsent = codes "RSA parameters absent"
kind_name RawParametersAbsent = codes "algorithm parameters absent"
kind_name HashNullAbsent = codes "hash parameters absent"
kind_name SaltTooLarge = codes "salt length too large"
kind_name VersionZeroSpelled = codes "default version encoded"
kind_name EmptyExtensionsSpelled = codes "empty extensions encoded"
kind_name CriticalFalseSpelled = codes "default criticality encoded"
kind_name AuthorityKeyFieldOrder = codes "authority key fields repeated or out of order"
kind_name GeneralNameForm = codes "general name under the other kind of tag"
kind_name SkippedKeyElement = codes "element skipped behind a private key"

-- the ten kinds, in the order of their numbers
abbrev pub kinds : List Deviation
kinds =
    RsaParametersAbsent ∷ RawParametersAbsent ∷ HashNullAbsent ∷ SaltTooLarge ∷ VersionZeroSpelled
    ∷ EmptyExtensionsSpelled ∷ CriticalFalseSpelled ∷ AuthorityKeyFieldOrder ∷ GeneralNameForm ∷ SkippedKeyElement ∷ []

-- each of them with its count
abbrev pub paired : List ℕ → List (Deviation × ℕ)
paired counts = map (λ kind. (kind, slice_index counts (kind_index kind))) kinds
