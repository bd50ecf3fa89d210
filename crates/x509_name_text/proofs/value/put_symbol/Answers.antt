use Rattle.std.proofs.Common.{sym, ◌∙◌}
use Rattle.x509_name_text.proofs.Escapes.{agrees, as_hidden, as_marked, as_plain}
use Rattle.x509_name_text.proofs.Writing.{both}
use Rattle.x509_name_text.proofs.value.put_symbol.Goals as goal

pub returns-then-not-is_plain : goal.returns-then-not-is_plain
returns-then-not-is_plain c = λ shown tells.
    let seen = agrees shown tells c.args.symbol c.is_plain.result c.is_plain.ensures.exact ∙ c.if-not-is_plain.true in
    rw (as_hidden shown c.args.is_edge c.args.symbol seen) c.put_hidden.ensures

pub returns-then-is_marked : goal.returns-then-is_marked
returns-then-is_marked c = λ shown tells.
    let seen = agrees shown tells c.args.symbol c.is_plain.result c.is_plain.ensures.exact ∙ c.if-not-is_plain.false in
    rw (as_marked shown c.args.is_edge c.args.symbol seen (sym c.is_marked.ensures ∙ c.if-is_marked.true)) (both _ _ _ _ _ _ _ _ c.put-behind.ensures c.put_char.ensures)

pub returns : goal.returns
returns c = λ shown tells.
    let seen = agrees shown tells c.args.symbol c.is_plain.result c.is_plain.ensures.exact ∙ c.if-not-is_plain.false in
    rw (as_plain shown c.args.is_edge c.args.symbol seen (sym c.is_marked.ensures ∙ c.if-is_marked.false)) c.put_char-2.ensures
