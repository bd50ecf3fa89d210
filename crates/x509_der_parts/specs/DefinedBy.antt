-- A field, and then another whose shape the first one's value chooses.
use Rattle.std.proofs.Common.{◌≡◌, ℕ, Bool, true, false, ◌||◌, ◌++◌}
use Rattle.x509_der_parts.specs.Shape.{Shape, Lawful}
use Rattle.x509_der_parts.specs.Fields.{Stands, Beside}
use Rattle.x509_der_parts.specs.Join.{Joined}

-- shapes by a key; begins has the first bytes of them all, ends what may not follow some of them
pub record IsFamily {K W : Type 0} (shapes : K → Shape W) (begins ends : ℕ → Bool) : Type 0 where
  pub lawful : (k : K) → Lawful (shapes k)
  pub begin : (k : K) (c : ℕ) → (shapes k).starts c ≡ true → begins c ≡ true
  pub end : (k : K) (c : ℕ) → ends c ≡ false → (shapes k).avoids c ≡ false

-- X has the two fields, of which the first is the second one's key
abbrev pub defined_by : {X K W : Type 0} → (X → K) → (X → W) → Shape K → (K → Shape W) → (ℕ → Bool) → (ℕ → Bool) → Shape X
defined_by key value a shapes begins ends = record {
  spelled = λ x. Joined (a.spelled (key x)) ((shapes (key x)).spelled (value x));
  strict = λ x. a.strict (key x) ++ (shapes (key x)).strict (value x);
  valid = λ x. a.valid (key x) × (shapes (key x)).valid (value x);
  readable = λ x. a.readable (key x) × (shapes (key x)).readable (value x);
  starts = λ c. a.starts c || begins c;
  avoids = λ c. a.avoids c || ends c;
  min_headers = λ rest n. n ≡ 0;
  frugal = a.frugal × ((k : _) → (shapes k).frugal);
  parts = λ x n slice string whole. Beside (λ m p. Stands a (key x) m p string whole) (λ m p. Stands (shapes (key x)) (value x) m p string whole) n slice;
}

-- nothing that may begin the second field is what the first one must not be followed by
abbrev pub KeyApart : {K : Type 0} → Shape K → (ℕ → Bool) → Type 0
KeyApart a begins = (c : ℕ) → begins c ≡ true → a.avoids c ≡ false
