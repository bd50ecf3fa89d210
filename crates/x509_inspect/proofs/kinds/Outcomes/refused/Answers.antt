use Rattle.std.proofs.Common.{◌≡◌, ◌∙◌, sym, None}
use Rattle.x509_inspect.specs.Determined.{outcome_of}
use Rattle.x509_inspect.proofs.Furthest.{everywhere}
use Rattle.x509_inspect.proofs.kinds.Outcomes.refused.Goals as goal

pub unreachable-requires-in_default-of : goal.unreachable-requires-in_default-of
unreachable-requires-in_default-of c = everywhere (λ k. outcome_of c.args.self.now k ≡ None → ⊥) c.requires c.in-Some.kind (sym c.of.ensures ∙ c.in_default-of.is)
