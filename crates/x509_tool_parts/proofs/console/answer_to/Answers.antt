use Rattle.std.proofs.lemmas.Result.{err_from_is_err_and}
use Rattle.std.specs.Prelude.{Ok, Err}
use Rattle.x509_tool_parts.specs.facts.OutcomeFacts.{answers_input}
use Rattle.x509_tool_parts.proofs.console.answer_to.Goals as goal

pub returns-in_err-run_text-clause-ok : goal.returns-in_err-run_text-clause-ok
returns-in_err-run_text-clause-ok g c =
    let p = err_from_is_err_and c.from_residual-in_err-run_text.result c.from_residual-in_err-run_text.ensures.1 in
    let e = c.in_err-run_text.ensures in
    rw (c.in_ok-input.was, p.1, p.2) (answers_input (λ v. v.items) g.row.A.Denot c.args.type_name.now c.in_ok-input.input.items c.deref.result.now (Err c.in_err-run_text.field-0.0) c.deref.ensures.value e.unknown e.no_text e.text)

pub returns-clause-ok : goal.returns-clause-ok
returns-clause-ok g c =
    let e = c.in_ok-run_text.ensures in
    rw c.in_ok-input.was (answers_input (λ v. v.items) g.row.A.Denot c.args.type_name.now c.in_ok-input.input.items c.deref.result.now (Ok c.in_ok-run_text.field-0) c.deref.ensures.value e.unknown e.no_text e.text)
