use Rattle.std.proofs.Common.{sym, ◌∙◌}
use Rattle.x509_signing.specs.facts.SignatureFields.{if_none, left_over, no_algorithm, no_sequence, no_serial}
use Rattle.x509_signing.proofs.signature_field.signature_algorithm.Goals as goal

pub returns-in_err-fields-clause-none : goal.returns-in_err-fields-clause-none
returns-in_err-fields-clause-none c = if_none c.from_residual.result (no_sequence c.args.part.now c.in_err-fields.ensures)

pub returns-then-not-is_empty-clause-none : goal.returns-then-not-is_empty-clause-none
returns-then-not-is_empty-clause-none c = left_over c.args.part.now _ _ _ c.in_ok-fields.ensures (sym c.is_empty.ensures ∙ c.if-not-is_empty.true)

pub returns-in_err-behind-clause-none : goal.returns-in_err-behind-clause-none
returns-in_err-behind-clause-none c = if_none c.from_residual-in_err-behind.result (no_serial c.args.part.now _ _ _ _ c.in_ok-fields.ensures c.behind_version-required.ensures.one c.in_err-behind.ensures)

pub returns-in_err-algorithm-clause-none : goal.returns-in_err-algorithm-clause-none
returns-in_err-algorithm-clause-none c = if_none c.from_residual-in_err-algorithm.result (no_algorithm c.args.part.now _ _ _ _ _ _ _ c.in_ok-fields.ensures c.behind_version-required.ensures.one c.in_ok-behind.ensures c.in_err-algorithm.ensures)
