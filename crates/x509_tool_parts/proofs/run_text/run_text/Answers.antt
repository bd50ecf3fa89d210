use Rattle.std.proofs.Common.{rules}
use Rattle.std.proofs.lemmas.Result.{err_from_is_err_and}
use Rattle.x509_tool_parts.specs.facts.TextFacts.{text_digits, is_text, decoded_as}
use Rattle.x509_tool_parts.proofs.run_text.run_text.Goals as goal

pub returns-in_err-bytes-clause-text : goal.returns-in_err-bytes-clause-text
returns-in_err-bytes-clause-text g c = λ bytes served text.
    let p = err_from_is_err_and c.from_residual.result c.from_residual.ensures.1 in
    let d = text_digits c.args.input.now c.without_line_feed.result.now bytes c.without_line_feed.ensures text in
    rw (p.1, p.2) (served.0, served.1, decoded_as _ served.0 bytes c.without_line_feed.result.now _ d c.in_err-bytes.ensures.err)

pub returns-clause-no_text : goal.returns-clause-no_text
returns-clause-no_text g c = λ served none. absurd (none _ (is_text c.args.input.now c.without_line_feed.result.now c.in_ok-bytes.bytes.items c.without_line_feed.ensures c.in_ok-bytes.ensures.ok))

pub returns-in_default-clause-unknown : goal.returns-in_default-clause-unknown
returns-in_default-clause-unknown g c = search (rules)
