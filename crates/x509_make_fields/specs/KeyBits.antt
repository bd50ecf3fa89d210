-- The bits of a public key with its algorithm.
use Rattle.std.specs.Prelude.{ℕ, List, ◌∷◌}
use Rattle.x509_der.specs.Reading.{IsFirst}

-- SubjectPublicKeyInfo ::= SEQUENCE { algorithm AlgorithmIdentifier, subjectPublicKey BIT STRING } (RFC 5280, 4.1.2.7): what stands in the latter behind the number of unused bits
pub record KeyBits (key bits : List ℕ) : Type 0 where
  pub tag : ℕ
  pub fields : List ℕ
  pub after : List ℕ
  pub whole : IsFirst key tag fields after
  pub algorithm_tag : ℕ
  pub algorithm : List ℕ
  pub rest : List ℕ
  pub first : IsFirst fields algorithm_tag algorithm rest
  pub string_tag : ℕ
  pub unused : ℕ
  pub more : List ℕ
  pub second : IsFirst rest string_tag (unused ∷ bits) more
