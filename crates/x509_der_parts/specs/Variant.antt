-- One kind of values among several: a value of the kind has a payload, and is spelled as that; and no kind at all.
use Rattle.std.proofs.Common.{◌≡◌, ℕ, false, List, []}
use Rattle.x509_der_parts.specs.Tally.{Tally, none}
use Rattle.x509_der_parts.specs.Fields.{Stands}
use Rattle.x509_der_parts.specs.Shape.{Shape}

-- the value is of the kind, and p spells its payload
pub record OfVariant {P V : Type 0} (make : P → V) (s : Shape P) (v : V) (p : List ℕ) (y : Tally) : Type 0 where
  pub payload : P
  pub is : v ≡ make payload
  pub spelled : s.spelled payload p y

-- the value is of the kind, and its payload is read back as itself
pub record ReadsAs {P V : Type 0} (make : P → V) (s : Shape P) (v : V) : Type 0 where
  pub payload : P
  pub is : v ≡ make payload
  pub readable : s.readable payload

-- the payload stands in the value's place
pub record PayloadAt {P V : Type 0} (make : P → V) (s : Shape P) (v : V) (n : ℕ) (slice string : List ℕ) (whole : Tally) : Type 0 where
  pub payload : P
  pub is : v ≡ make payload
  pub inner : Stands s payload n slice string whole

-- make gives the value with a payload; of says what is written of a value of any kind, and Ok which values there are
abbrev pub variant : {P V : Type 0} → (P → V) → (V → List ℕ) → (V → Type 0) → Shape P → Shape V
variant make of Ok s = record {
  spelled = OfVariant make s;
  strict = of;
  valid = Ok;
  readable = ReadsAs make s;
  starts = s.starts;
  avoids = s.avoids;
  min_headers = s.min_headers;
  frugal = s.frugal;
  parts = PayloadAt make s;
}

-- nothing is spelled: the shape of what no kind allows
abbrev pub no_variant : {V : Type 0} → (V → List ℕ) → (V → Type 0) → Shape V
no_variant of Ok = record {
  spelled = λ v p y. ⊥;
  strict = of;
  valid = Ok;
  readable = λ v. ⊥;
  starts = λ c. false;
  avoids = λ c. false;
  min_headers = λ rest n. n ≡ 0;
  frugal = Unit {0};
  parts = λ v n slice string whole. ⊥;
}

-- no bytes, for the one value of a type: the shape of a payload that a kind has not
abbrev pub bare : Shape (Unit {0})
bare = record {
  spelled = λ v p y. (p ≡ []) × (y ≡ none);
  strict = λ v. [];
  valid = λ v. Unit {0};
  readable = λ v. Unit {0};
  starts = λ c. false;
  avoids = λ c. false;
  min_headers = λ rest n. n ≡ 0;
  frugal = Unit {0};
  parts = λ v n slice string whole. slice ≡ [];
}
