use Rattle.std.proofs.Common.{subst, ◌∙◌}
use Rattle.std.specs.Prelude.{IsTrue}
use Rattle.x509_keys_parts.specs.facts.AlgorithmContents.{other_content}
use Rattle.x509_keys_parts.proofs.algorithm_parameters.has_content.Goals as goal

pub returns-else-end_alike : goal.returns-else-end_alike
returns-else-end_alike c =
    c.if-end_alike.false
    ∙ other_content c.args.identifier.now c.args.content.now c.content.ensures.lawful (λ e. subst IsTrue c.if-end_alike.false (c.end_alike.ensures (c.content.ensures.content ∙ e)))
