use Rattle.x509_tool_parts.specs.facts.OutcomeFacts.{read_or_given_up}
use Rattle.x509_tool_parts.proofs.console.outcome_of.Goals as goal

pub returns-in-Ok-clause-ok : goal.returns-in-Ok-clause-ok
returns-in-Ok-clause-ok g c = rw (c.in-Ok.is, ← c.as_str.ensures.value) (read_or_given_up (λ v. v.items) g.row.A.Denot (g.R.Read.remaining c.args.reader) c.as_str.result.now c.read_input.result c.answer_to.result c.read_input.ensures.ok c.read_input.ensures.err c.answer_to.ensures.ok c.answer_to.ensures.err)
