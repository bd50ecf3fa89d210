use Rattle.std.proofs.Common.{ℕ, List, ap, ◌∙◌}
use Rattle.std.specs.Prelude.{nat_eq}
use Rattle.std.specs.Cmp.Lexicographic.{pointwise}
use Rattle.x509_der.specs.facts.OidContent.{content_test}
use Rattle.x509_flat_values.proofs.identifier.is_identifier.Goals as goal

pub returns : goal.returns
returns c = λ arcs h. c.eq.ensures ∙ ap (λ (x : List ℕ). pointwise nat_eq x c.args.known.now) h.1 ∙ content_test arcs c.args.known.now h.0
