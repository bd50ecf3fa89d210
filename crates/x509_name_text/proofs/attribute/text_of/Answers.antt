use Rattle.std.proofs.Common.{sym, ◌∙◌}
use Rattle.std.proofs.lemmas.Str.{IsUtf8-from_is_utf8, is_utf8-from_IsUtf8}
use Rattle.std.specs.Str.{is_utf8}
use Rattle.x509_name_text.specs.Texts.{has_text}
use Rattle.x509_name_text.proofs.Escapes.{both_true, first_false, not_true, second_false}
use Rattle.x509_name_text.proofs.attribute.text_of.Goals as goal

pub returns-then-not-is_text : goal.returns-then-not-is_text
returns-then-not-is_text c = first_false (has_text c.args.tag) (is_utf8 c.args.content.now) (sym c.is_text.ensures ∙ c.if-not-is_text.true)

pub returns-in-Ok : goal.returns-in-Ok
returns-in-Ok c = (both_true (has_text c.args.tag) (is_utf8 c.args.content.now) (sym c.is_text.ensures ∙ c.if-not-is_text.false) (is_utf8-from_IsUtf8 c.args.content.now c.in-Ok.ensures.cases.1), c.in-Ok.ensures.cases.0)

pub returns-in-Err : goal.returns-in-Err
returns-in-Err c = second_false (has_text c.args.tag) (is_utf8 c.args.content.now) (not_true (is_utf8 c.args.content.now) (λ is. c.in-Err.ensures.cases.0 (IsUtf8-from_is_utf8 c.args.content.now is)))
