use Rattle.std.proofs.Common.{[], sym, ◌∙◌, append-nil}
use Rattle.x509_der.specs.Element.{element}
use Rattle.x509_name_text.proofs.AttributeTexts.{as_octets, as_string, as_units}
use Rattle.x509_name_text.proofs.Elements.{next_is}
use Rattle.x509_name_text.proofs.attribute.put_value.Goals as goal

pub returns-in-Some : goal.returns-in-Some
returns-in-Some c = λ shown tag content tells low bytes.
    let same = next_is c.args.value c.next-found.result c.next-found.new.self tag content [] low c.next-found.ensures (bytes ∙ sym (append-nil (element tag content))) in
    let said = c.in-Some.ensures in
    rw (as_string shown tag content (rw (same.tag, same.content) at said.0)) (rw (said.1, same.content) at c.put_text.ensures shown tells)

pub returns-then-is_utf16 : goal.returns-then-is_utf16
returns-then-is_utf16 c = λ shown tag content tells low bytes.
    let same = next_is c.args.value c.next-found.result c.next-found.new.self tag content [] low c.next-found.ensures (bytes ∙ sym (append-nil (element tag content))) in
    let units = sym c.is_utf16.ensures ∙ c.if-is_utf16.true in
    rw (as_units shown tag content (rw (same.tag, same.content) at c.in_default.ensures) (rw (same.tag, same.content) at units)) (rw same.content at c.put_utf16.ensures shown tells)

pub returns : goal.returns
returns c = λ shown tag content tells low bytes.
    let same = next_is c.args.value c.next-found.result c.next-found.new.self tag content [] low c.next-found.ensures (bytes ∙ sym (append-nil (element tag content))) in
    let units = sym c.is_utf16.ensures ∙ c.if-is_utf16.false in
    rw (as_octets shown tag content (rw (same.tag, same.content) at c.in_default.ensures) (rw (same.tag, same.content) at units)) (rw bytes at c.put_octets.ensures)
