-- Signed certificate timestamps, in the presentation language of TLS (RFC 6962, 3.2 and 3.3; RFC 5246, 4).
use Rattle.std.specs.Prelude.{◌≡◌, ℕ, ◌<◌, ◌^◌, ◌/◌, ◌%◌, List, ◌∷◌, ◌++◌, length}
use Rattle.std.specs.List.{flat_map, AllByRecursion}
use Rattle.std.specs.Int.{w64, to_be_bytes}

-- opaque <0..2^16-1>: the length in two bytes, the high one first, and the bytes
abbrev pub vector : List ℕ → List ℕ
vector bytes = length bytes / 256 ∷ length bytes % 256 ∷ bytes

abbrev pub IsVector : List ℕ → Type 0
IsVector bytes = length bytes < 65536

-- opaque SerializedSCT<1..2^16-1>; struct { SerializedSCT sct_list <1..2^16-1> }. Empty ones are such too
abbrev pub list_bytes : List (List ℕ) → List ℕ
list_bytes items = vector (flat_map vector items)

pub record IsList (items : List (List ℕ)) : Type 0 where
  pub whole : IsVector (flat_map vector items)
  pub each : AllByRecursion IsVector items

-- a timestamp without where it lies in memory
pub record Entry : Type 0 where
  pub log_id : List ℕ
  pub time : ℕ
  pub extensions : List ℕ
  pub hash : ℕ
  pub signature_kind : ℕ
  pub signature : List ℕ

-- struct { Version sct_version; LogID id; uint64 timestamp; CtExtensions extensions; digitally-signed struct {..} }, where Version is
-- v1 (0), LogID is opaque [32], CtExtensions is opaque <0..2^16-1>; a digitally-signed struct is two bytes that tell hash and
-- signature, and the signature, opaque <0..2^16-1> (RFC 5246, 4.7)
abbrev pub timestamp_bytes : Entry → List ℕ
timestamp_bytes t = 0 ∷ (t.log_id ++ (to_be_bytes w64 t.time ++ (vector t.extensions ++ (t.hash ∷ t.signature_kind ∷ vector t.signature))))

pub record IsTimestamp (t : Entry) : Type 0 where
  pub log_id : length t.log_id ≡ 32
  pub time : t.time < 2 ^ 64
  pub extensions : IsVector t.extensions
  pub signature : IsVector t.signature
