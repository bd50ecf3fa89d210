-- What writing something that is made tells.
use Rattle.std.specs.Prelude.{◌≡◌, ℕ, ◌≤◌, ◌^◌, List, length}
use Rattle.x509_flat.specs.Encodings.{Filled, Short, Untouched}
use Rattle.x509_flat.specs.declared.status.Status.{Status}
use Rattle.x509_flat.specs.declared.status.Status.TheVariants as answer
use Rattle.x509_pem_writer.specs.Blocks.{pem_of}
use Rattle.x509_signature_algorithms.specs.SignatureAlgorithms.{IsNamed, WhyNotNamed}
use Rattle.x509_signature_algorithms.specs.declared.by_name.NotNamed.{NotNamed}
use Rattle.x509_signature_algorithms.specs.declared.by_name.NotNamed.TheVariants.{OutOfMemory}
use Rattle.x509_signing.specs.RawSignatures.{AreTwo, ecdsa_signature_of}

-- bytes that are made, of which a fact holds
pub record WithMade (Made fact : List ℕ → Type 0) : Type 0 where
  pub bytes : List ℕ
  pub made : Made bytes
  pub holds : fact bytes

-- what a status says of writing what is made to the front of a slice, and of refusing to make it
pub record Makes (Made : List ℕ → Type 0) (Refuses Long : Type 0) (old new : List ℕ) (status : Status) (size : ℕ) : Type 0 where
  pub done : status ≡ answer.Done → WithMade Made (λ bytes. Filled bytes old new size)
  pub short : status ≡ answer.TooShort → WithMade Made (λ bytes. Short bytes old new size)
  pub long : status ≡ answer.TooLong → Untouched old new size × Long
  pub refused : status ≡ answer.Refused → Untouched old new size × Refuses
  pub memory : status ≡ answer.OutOfMemory → Untouched old new size
  pub unknown : status ≡ answer.UnknownKind → ⊥

-- r and s as a signature
abbrev pub ConvertsTo : (raw old new : List ℕ) → Status → ℕ → Type 0
ConvertsTo raw = Makes (λ b. AreTwo raw × (b ≡ ecdsa_signature_of raw)) (AreTwo raw → ⊥) (2 ^ 64 ≤ length (ecdsa_signature_of raw))

-- the text names no algorithm of signatures
pub record NotNamedFor (text : List ℕ) : Type 0 where
  pub why : NotNamed
  pub other : why ≡ OutOfMemory → ⊥
  pub holds : WhyNotNamed text why

abbrev pub NamesTo : (text old new : List ℕ) → Status → ℕ → Type 0
NamesTo text = Makes (IsNamed text) (NotNamedFor text) ⊥

-- PEM
abbrev pub WritesPem : (label bytes old new : List ℕ) → Status → ℕ → Type 0
WritesPem label bytes = Makes (λ b. b ≡ pem_of label bytes) ⊥ ⊥
