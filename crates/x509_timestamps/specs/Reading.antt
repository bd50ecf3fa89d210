-- Reading from left to right, on lists.
use Rattle.std.specs.Prelude.{◌≡◌, ℕ, zero, suc, ◌+◌, ◌*◌, List, [], ◌∷◌, length, take, drop, Option, Some, None, nat_lt, ◌==◌, if◌then◌else◌}
use Rattle.std.specs.Int.{w64, from_be_bytes}
use Rattle.x509_timestamps.specs.Timestamps.{Entry}

infixl 10 ◌>>=◌
abbrev pub ◌>>=◌ : {A B : Type 0} → Option A → (A → Option B) → Option B
(Some x) >>= f = f x
None >>= f = None

-- what a function answered, seen by view, is what reading gives
abbrev pub Gives : {X Y : Type 0} → (X → Y) → Option X → Option Y → Type 0
Gives view (Some x) read = read ≡ Some (view x)
Gives view None read = read ≡ None

-- a vector, and the bytes behind it
unfoldable pub vector_at : List ℕ → Option (List ℕ × List ℕ)
vector_at [] = None
vector_at (high ∷ []) = None
vector_at (high ∷ low ∷ rest) =
    if nat_lt (length rest) (high * 256 + low) then None
    else Some (take (high * 256 + low) rest, drop (high * 256 + low) rest)

-- a vector that ends with the bytes
unfoldable pub whole_at : List ℕ → Option (List ℕ)
whole_at bytes = do
  v ← vector_at bytes
  if length v.1 == 0 then Some v.0 else None

-- what tells how it is signed, and the signature, up to the end
unfoldable pub signed_at : List ℕ → ℕ → List ℕ → List ℕ → Option Entry
signed_at log_id time extensions [] = None
signed_at log_id time extensions (hash ∷ []) = None
signed_at log_id time extensions (hash ∷ kind ∷ rest) = do
  s ← vector_at rest
  if length s.1 == 0
      then Some (record { log_id = log_id; time = time; extensions = extensions; hash = hash; signature_kind = kind; signature = s.0 })
      else None

-- all behind the version
unfoldable pub body_at : List ℕ → Option Entry
body_at bytes =
    if nat_lt (length bytes) 40 then None
    else vector_at (drop 8 (drop 32 bytes)) >>= λ e. signed_at (take 32 bytes) (from_be_bytes w64 (take 8 (drop 32 bytes))) e.0 e.1

unfoldable pub timestamp_at : List ℕ → Option Entry
timestamp_at [] = None
timestamp_at (zero ∷ rest) = body_at rest
timestamp_at (suc version ∷ rest) = None
