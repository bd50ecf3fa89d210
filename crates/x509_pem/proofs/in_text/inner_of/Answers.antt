use Rattle.std.proofs.Common.{rules}
use Rattle.x509_pem.proofs.in_text.inner_of.Goals as goal

pub returns-then-has_colon : goal.returns-then-has_colon
returns-then-has_colon c =
    (c.trimmed-line.result.now, c.trimmed-line.ensures, (c.in-Text.ensures.0, c.in-Text.ensures.1, c.has_colon.ensures.some c.if-has_colon.true))

pub returns-else-has_colon : goal.returns-else-has_colon
returns-else-has_colon c =
    (c.trimmed-line.result.now, c.trimmed-line.ensures, (c.in-Text.ensures.0, c.in-Text.ensures.1, c.has_colon.ensures.none c.if-has_colon.false))
