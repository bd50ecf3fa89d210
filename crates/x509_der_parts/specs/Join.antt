-- One field, and then another.
use Rattle.std.proofs.Common.{◌≡◌, ℕ, true, false, ◌||◌, List, ◌++◌, length}
use Rattle.x509_der_parts.specs.Tally.{Tally, joined}
use Rattle.x509_der_parts.specs.Fields.{Stands, Beside}
use Rattle.x509_der_parts.specs.Shape.{Shape}

-- a front that is spelled one way, and a back that is spelled another
pub record Joined (A B : List ℕ → Tally → Type 0) (p : List ℕ) (y : Tally) : Type 0 where
  pub front : List ℕ
  pub back : List ℕ
  pub first : Tally
  pub second : Tally
  pub fore : A front first
  pub aft : B back second
  pub bytes : p ≡ front ++ back
  pub tally : y ≡ joined (length front) first second

-- X has the two fields
abbrev pub join : {X V W : Type 0} → (X → V) → (X → W) → Shape V → Shape W → Shape X
join fst snd a b = record {
  spelled = λ x. Joined (a.spelled (fst x)) (b.spelled (snd x));
  strict = λ x. a.strict (fst x) ++ b.strict (snd x);
  valid = λ x. a.valid (fst x) × b.valid (snd x);
  readable = λ x. a.readable (fst x) × b.readable (snd x);
  starts = λ c. a.starts c || b.starts c;
  avoids = λ c. a.avoids c || b.avoids c;
  min_headers = λ rest n. n ≡ 0;
  frugal = a.frugal × b.frugal;
  parts = λ x n slice string whole. Beside (λ m p. Stands a (fst x) m p string whole) (λ m p. Stands b (snd x) m p string whole) n slice;
}

-- nothing that may begin the second field is what the first one must not be followed by
abbrev pub Apart : {V W : Type 0} → Shape V → Shape W → Type 0
Apart a b = (c : ℕ) → b.starts c ≡ true → a.avoids c ≡ false
