-- Base64 text in memory, decoded into memory that is lent.
use Rattle.std.specs.Prelude.{◌≡◌, ◌≢◌, ℕ, ◌+◌, ◌*◌, ◌/◌, ◌%◌, ◌≤◌, List, [], ◌∷◌, ◌++◌, ◌⊎◌, take, drop, length}
use Rattle.base64.specs.Engines.{standard}
use Rattle.base64.specs.GeneralPurpose.{IsBytes, encode_of}
use Rattle.x509_pem.specs.declared.decoding.Symbols.{Symbols}

-- no bytes are spelled so
abbrev pub SpellsNone : List ℕ → Type 0
SpellsNone text = (bytes : List ℕ) → IsBytes bytes → text ≢ encode_of standard bytes

-- behind the first bytes of a buffer stand those that the symbols spell, and behind them what stood there
pub record IsAppended (symbols : List ℕ) (len n : ℕ) (old new : List ℕ) : Type 0 where
  pub more : List ℕ
  pub front : take n new ≡ take len old ++ more
  pub spelled : symbols ≡ encode_of standard more
  pub behind : drop n new ≡ drop n old
  pub low : len ≤ n
  pub high : n ≤ length new
  pub same : length new ≡ length old
  pub whole : (length (take len old) % 3 ≡ 0) ⊎ (symbols ≡ [])

-- the text so far is what encodes the bytes of the buffer, and symbols behind them
pub record SoFar (text : List ℕ) (s : Symbols) (old new : List ℕ) : Type 0 where
  pub is : text ≡ encode_of standard (take s.len new) ++ take s.filled s.chunk
  pub wide : length s.chunk ≡ 64
  pub fits : s.filled ≤ 64
  pub high : s.len ≤ length new
  pub same : length new ≡ length old
  pub behind : drop s.len new ≡ drop s.len old
