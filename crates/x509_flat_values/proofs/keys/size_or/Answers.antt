use Rattle.std.proofs.Common.{sym, ap, ◌∙◌}
use Rattle.x509_flat_values.specs.Curves.{algorithm_size, size_or}
use Rattle.x509_flat_values.proofs.KeyWalks.{same_arcs}
use Rattle.x509_flat_values.proofs.keys.size_or.Goals as goal

pub returns-in-Some-of : goal.returns-in-Some-of
returns-in-Some-of c = λ arcs h. c.algorithm_size.ensures ∙ ap algorithm_size (same_arcs c.in-Some-of.algorithm arcs c.args.content.now c.in-Some-of.ensures h) ∙ sym (ap (size_or arcs) c.in_default.is)
