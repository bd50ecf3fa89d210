-- The order of the elements of a SET OF in DER (X.690, 11.6).
use Rattle.std.specs.Prelude.{◌≡◌, ℕ, List, [], ◌∷◌, ◌++◌, length, All, Vec, flat_map}
use Rattle.std.specs.Cmp.Lexicographic.{slice_cmp}
use Rattle.std.specs.List.Sorted.{IsPermutation, IsSorted}
use Rattle.std.specs.Ordering.{nat_cmp}
use Rattle.x509_der.specs.Element.{element}

-- the content of a SET OF whose elements have these encodings: each as often as it is given, ascending as strings of octets, one behind another (the padding with zeros that the clause speaks of decides nothing, since of two encodings none begins with the other)
pub record IsSetContent {X : Type 0} (octets : X → List ℕ) (given : List X) (content : List ℕ) : Type 0 where
  pub ordered : List X
  pub same : IsPermutation given ordered
  pub ascending : IsSorted (λ x y. slice_cmp nat_cmp (octets x) (octets y)) ordered
  pub behind : content ≡ flat_map octets ordered

-- one more is kept behind those that were, with these octets
pub record Keeps (A : Type 0) (octets : List ℕ) (old new : List (Vec ℕ A)) : Type 0 where
  pub last : Vec ℕ A
  pub behind : new ≡ old ++ last ∷ []
  pub same : last.items ≡ octets

-- they are the element of a tag, whatever stands in it
pub record IsElement (tag : ℕ) (octets : List ℕ) : Type 0 where
  pub content : List ℕ
  pub is : octets ≡ element tag content

-- AttributeTypeAndValue ::= SEQUENCE { type, value } (RFC 5280, 4.1.2.4): so many as the elements of a SET OF stand behind what was written before
pub record AppendsAttributes (A : Type 0) (count : ℕ) (old new : List ℕ) : Type 0 where
  pub given : List (Vec ℕ A)
  pub many : length given ≡ count
  pub attributes : All (λ e. IsElement 48 e.items) given
  pub content : List ℕ
  pub ordered : IsSetContent (λ e. e.items) given content
  pub behind : new ≡ old ++ content
