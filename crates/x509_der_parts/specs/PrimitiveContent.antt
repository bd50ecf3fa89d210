-- Contents of primitive elements.
use Rattle.std.proofs.Common.{◌≡◌, ℕ, Bool, true, List, []}
use Rattle.x509_der_parts.specs.Element.{AreBytes}
use Rattle.x509_der_parts.specs.Tally.{none}
use Rattle.x509_der_parts.specs.Shape.{Shape}

abbrev pub all : ℕ → Bool
all c = true

-- A content without elements in it: Is v p says that p is the content of v, and of says which one. Frugal says that a read takes no memory
abbrev pub plain : {V : Type 0} → (V → List ℕ → Type 0) → (V → List ℕ) → (V → Type 0) → Type 0 → Shape V
plain Is of Ok Frugal = record {
  spelled = λ v p y. Is v p × (y ≡ none);
  strict = of;
  valid = Ok;
  readable = λ v. Unit {0};
  starts = all;
  avoids = all;
  min_headers = λ rest n. n ≡ 0;
  frugal = Frugal;
  parts = λ v n slice string whole. Unit {0};
}

-- bytes that are allowed
abbrev pub IsBytes : (List ℕ → Type 0) → List ℕ → Type 0
IsBytes Allowed v = AreBytes v × Allowed v

-- they are their own content
abbrev pub IsItself : (List ℕ → Type 0) → List ℕ → List ℕ → Type 0
IsItself Allowed v p = IsBytes Allowed v × (p ≡ v)

abbrev pub itself : (List ℕ → Type 0) → Shape (List ℕ)
itself Allowed = plain (IsItself Allowed) (λ v. v) (IsBytes Allowed) ⊥

-- octets: any bytes
abbrev pub octets : Shape (List ℕ)
octets = itself (λ v. Unit {0})

-- no content, for the one value of a type
abbrev pub IsNothing : {V : Type 0} → V → List ℕ → Type 0
IsNothing v p = p ≡ []

abbrev pub nothing : {V : Type 0} → Shape V
nothing {V} = plain {V = V} IsNothing (λ v. []) (λ v. Unit {0}) (Unit {0})
