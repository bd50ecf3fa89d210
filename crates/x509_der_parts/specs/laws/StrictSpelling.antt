-- Two ways to name the strict spelling agree in each part.
use Rattle.std.proofs.Common.{◌≡◌, ℕ, List, [], ◌∷◌, Option, Some, None, refl}
use Rattle.std.specs.List.{flat_map}
use Rattle.x509_der_parts.specs.facts.Lists.{same_append}
use Rattle.x509_der_parts.specs.Shape.{Shape}
use Rattle.x509_der_parts.specs.Optional.{optional_strict}

module _ {V : Type 0} (s : Shape V) (strict : V → List ℕ) (agrees : (v : V) → s.strict v ≡ strict v) where
  pub agree_optional : (v : Option V) → optional_strict s.strict v ≡ optional_strict strict v
  agree_optional None = refl
  agree_optional (Some v) = agrees v

  pub agree_items : (vs : List V) → flat_map s.strict vs ≡ flat_map strict vs
  agree_items [] = refl
  agree_items (v ∷ vs) = same_append (agrees v) (agree_items vs)
