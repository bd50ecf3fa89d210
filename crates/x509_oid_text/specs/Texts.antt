-- What is told of the text of an object identifier.
use Rattle.std.specs.Prelude.{◌≡◌, ℕ, ◌≤◌, ◌<◌, ◌^◌, List, ◌++◌, drop, length, Result, Ok, Err}
use Rattle.x509_der.specs.ObjectIdentifier.{IsOid, dotted}
use Rattle.x509_oid_text.specs.declared.text.NoText.{NoText}
use Rattle.x509_oid_text.specs.declared.text.NoText.TheVariants.{Bad, TooShort, TooLong}

-- the content of an object identifier, of whose text a fact holds
abbrev pub OfText : List ℕ → (List ℕ → Type 0) → Type 0
OfText content fact = (arcs : List ℕ) × IsOid arcs content × fact (dotted arcs)

-- its text stands in front of what the buffer had behind it; or the buffer is as it was
abbrev pub TextTold : List ℕ → List ℕ → List ℕ → Result ℕ NoText → Type 0
TextTold content old new (Ok size) = OfText content (λ text. (size ≡ length text) × (length text ≤ length old) × (new ≡ text ++ drop (length text) old))
TextTold content old new (Err Bad) = (new ≡ old) × ((arcs : List ℕ) → IsOid arcs content → ⊥)
TextTold content old new (Err (TooShort size)) = (new ≡ old) × OfText content (λ text. (size ≡ length text) × (length old < length text))
TextTold content old new (Err TooLong) = (new ≡ old) × OfText content (λ text. 2 ^ 64 ≤ length text)
