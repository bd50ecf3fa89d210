-- What is written of object identifiers and names.
use Rattle.std.specs.Prelude.{◌≡◌, ℕ, ◌-◌, ◌<◌, ◌≤◌, ◌^◌, min, Bool, List, [], ◌++◌, ◌⊎◌, drop, length, Option, unwrap_or}
use Rattle.x509_der.specs.ObjectIdentifier.{IsOid}
use Rattle.x509_der.specs.Tally.{Tally}
use Rattle.x509_name_text.specs.Texts.{IsName, NameAttribute, TellsShown, name_text}
use Rattle.x509_names.specs.Names.{Sets, name}
use Rattle.x509_oid_text.specs.Names.{IsNameIn}
use Rattle.x509_oid_text.specs.Texts.{OfText}

-- the text stands in front of what the buffer had behind it; or the buffer is shorter, and as it was
abbrev pub NameWritten : List ℕ → List ℕ → List ℕ → ℕ → ℕ → Type 0
NameWritten text old new status size =
    (size ≡ length text)
    × (((status ≡ 0) × (length text ≤ length old) × (new ≡ text ++ drop (length text) old))
    ⊎ ((status ≡ 3) × (length old < length text) × (new ≡ old)))

-- the text of the object identifier with the content, or the content is that of none
abbrev pub TextWritten : List ℕ → List ℕ → List ℕ → ℕ → ℕ → Type 0
TextWritten content old new status size =
    OfText content (λ text. NameWritten text old new status size)
    ⊎ (((status ≡ 1) × (size ≡ 0) × (new ≡ old) × ((arcs : List ℕ) → IsOid arcs content → ⊥))
    ⊎ ((status ≡ 5) × (size ≡ 0) × (new ≡ old) × OfText content (λ text. 2 ^ 64 ≤ length text)))

-- the name of the object identifier with the content; nothing where it has none, or the content is that of none
pub record OidNameWritten (content old new : List ℕ) (status size : ℕ) : Type 0 where
  pub name : Option (List ℕ)
  pub named : IsNameIn content name
  pub written : NameWritten (unwrap_or name []) old new status size

-- some text stands in front of what the buffer had behind it; or the buffer is shorter, and as it was
abbrev pub SomeTextWritten : List ℕ → List ℕ → ℕ → ℕ → Type 0
SomeTextWritten old new status size =
    ((status ≡ 0) × (size ≤ length old) × (text : List ℕ) × (size ≡ length text) × (new ≡ text ++ drop size old))
    ⊎ ((status ≡ 3) × (length old < size) × (new ≡ old))

-- the text of a name stands in front of what the buffer had behind it; or the buffer is shorter than the text, and as it was
abbrev pub NameTextTold : List ℕ → List ℕ → List ℕ → ℕ → ℕ → Type 0
NameTextTold text old new status size =
    ((status ≡ 0) × (size ≡ length text) × (size ≤ length old) × (new ≡ text ++ drop size old))
    ⊎ ((status ≡ 3) × (size ≡ min (2 ^ 64 - 1) (length text)) × (length old < size) × (new ≡ old))

-- of any name, by a test for which characters are shown as they are, that text is told, unless the bytes are refused
abbrev pub TellsName : List ℕ → List ℕ → List ℕ → ℕ → ℕ → Type 0
TellsName der old new status size =
    (shown : ℕ → Bool) (sets : List (List NameAttribute)) → TellsShown shown → IsName sets der → (status ≡ 1) ⊎ NameTextTold (name_text shown sets) old new status size

-- the bytes encode no name
pub record NoName (A : Type 0) (der : List ℕ) : Type 0 where
  pub none : (v : Sets A) (y : Tally) → (name {A = A}).spelled v der y → ⊥

-- some text of a name, or the bytes encode none
abbrev pub NameTextWritten : (A : Type 0) → List ℕ → List ℕ → List ℕ → ℕ → ℕ → Type 0
NameTextWritten A der old new status size =
    SomeTextWritten old new status size ⊎ ((status ≡ 1) × (size ≡ 0) × (new ≡ old) × NoName A der)
