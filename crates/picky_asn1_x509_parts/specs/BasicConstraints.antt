-- Whether a certificate's subject is an authority, and how many may follow it in a path (RFC 5280, 4.2.1.9).
use Rattle.std.proofs.Common.{◌≡◌, ℕ, ◌+◌, ◌++◌, length, Bool, List, Option}
use Rattle.x509_der.specs.Boolean.{booleans}
use Rattle.x509_der.specs.Element.{element, header}
use Rattle.x509_der.specs.Join.{join}
use Rattle.x509_der.specs.Optional.{optional, OptionalAt}
use Rattle.x509_der.specs.Shape.{Shape}
use Rattle.x509_der.specs.SmallInteger.{small_integers}
use Rattle.x509_der.specs.Structure.{structure}
use Rattle.x509_der.specs.Tagged.{tagged}
use Rattle.x509_der.specs.Tally.{Tally}

-- the two fields, each of which may be absent
pub record Constraints : Type 0 where
  pub ca : Option Bool
  pub pathlen : Option ℕ

abbrev pub constraints_parts : Constraints → Option Bool × Option ℕ
constraints_parts c = (c.ca, c.pathlen)

-- cA BOOLEAN
abbrev pub authority : Shape Bool
authority = tagged 1 booleans

-- pathLenConstraint INTEGER (0..255)
abbrev pub path_length : Shape ℕ
path_length = tagged 2 small_integers

-- SEQUENCE { cA BOOLEAN OPTIONAL, pathLenConstraint INTEGER (0..255) OPTIONAL } (RFC 5280, 4.2.1.9, where cA is FALSE by
-- default: here an absent cA and a FALSE that is spelled are two values)
abbrev pub constraints_base : Shape (Option Bool × Option ℕ)
constraints_base = tagged 48 (join (λ j. j.0) (λ j. j.1) (optional authority) (optional path_length))

abbrev pub basic_constraints : Shape Constraints
basic_constraints = structure constraints_parts constraints_base

-- the fields one behind the other in the SEQUENCE, each at its own place
pub record ConstraintsAt (c : Constraints) (string : List ℕ) (y : Tally) : Type 0 where
  pub content : List ℕ
  pub sequence : string ≡ element 48 content
  pub truths : List ℕ
  pub numbers : List ℕ
  pub fields : content ≡ truths ++ numbers
  pub ca_at : OptionalAt authority c.ca (header content) truths string y
  pub pathlen_at : OptionalAt path_length c.pathlen (header content + length truths) numbers string y
