-- Algorithm identifiers with any parameters, or none (RFC 5280, 4.1.1.2).
use Rattle.std.proofs.Common.{◌≡◌, ℕ, ◌+◌, List, ◌++◌, length, Option}
use Rattle.x509_der.specs.Element.{element, header}
use Rattle.x509_der.specs.Fields.{Stands}
use Rattle.x509_der.specs.Join.{join}
use Rattle.x509_der.specs.ObjectIdentifier.{oids}
use Rattle.x509_der.specs.Optional.{optional, OptionalAt}
use Rattle.x509_der.specs.RawElement.{raws}
use Rattle.x509_der.specs.Shape.{Shape}
use Rattle.x509_der.specs.Structure.{structure}
use Rattle.x509_der.specs.Tagged.{tagged}
use Rattle.x509_der.specs.Tally.{Tally}
use Rattle.x509_outline_parts.specs.declared.algorithm_outline.AlgorithmOutline.{AlgorithmOutline}

-- the arcs, and the element that the parameters are, where there are any
abbrev pub Fields : Type 0
Fields = List ℕ × Option (List ℕ)

abbrev pub algorithm_parts : {A : Type 0} → AlgorithmOutline A → Fields
algorithm_parts v = (v.algorithm, v.parameters)

-- algorithm OBJECT IDENTIFIER, parameters ANY DEFINED BY algorithm OPTIONAL
abbrev pub algorithm_inner : Shape Fields
algorithm_inner = join (λ j. j.0) (λ j. j.1) (tagged 6 oids) (optional raws)

-- AlgorithmIdentifier ::= SEQUENCE { algorithm OBJECT IDENTIFIER, parameters ANY DEFINED BY algorithm OPTIONAL } (RFC
-- 5280, 4.1.1.2)
abbrev pub algorithm_base : Shape Fields
algorithm_base = tagged 48 algorithm_inner

abbrev pub algorithm : {A : Type 0} → Shape (AlgorithmOutline A)
algorithm = structure algorithm_parts algorithm_base

-- the identifier right behind the header, and behind it the parameters, where there are any
pub record AlgorithmAt {A : Type 0} (v : AlgorithmOutline A) (string : List ℕ) (y : Tally) : Type 0 where
  pub content : List ℕ
  pub bytes : string ≡ element 48 content
  pub identifiers : List ℕ
  pub parameters : List ℕ
  pub fields : content ≡ identifiers ++ parameters
  pub algorithm_at : Stands (tagged 6 oids) v.algorithm (header content) identifiers string y
  pub parameters_at : OptionalAt raws v.parameters (header content + length identifiers) parameters string y
