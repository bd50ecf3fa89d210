use Rattle.std.proofs.Common.{◌≡◌, Some, None, refl, sym, ap, ◌∙◌}
use Rattle.x509_der.specs.Element.{element}
use Rattle.x509_name_text.specs.Texts.{short_name, typed_text}
use Rattle.x509_name_text.proofs.Elements.{next_is}
use Rattle.x509_name_text.proofs.Writing.{both}
use Rattle.x509_name_text.proofs.attribute.put_attribute.Goals as goal

pub returns-in_default : goal.returns-in_default
returns-in_default c = λ shown a tells spells.
    let same = next_is c.args.attribute c.next.result c.next.new.self 6 a.kind (element a.tag a.content) refl c.next.ensures spells.bytes in
    let none : short_name a.kind ≡ None = ap short_name (sym same.content) ∙ sym c.in_default.ensures in
    rw (ap (λ name. typed_text shown a name) none)
    (both _ _ _ _ _ _ _ _ (c.put_dotted-behind.ensures a.label (rw (sym same.content) at spells.label)) (both _ _ _ _ _ _ _ _ c.put-sign.ensures (rw same.rest at c.put_octets.ensures)))

pub returns : goal.returns
returns c = λ shown a tells spells.
    let same = next_is c.args.attribute c.next.result c.next.new.self 6 a.kind (element a.tag a.content) refl c.next.ensures spells.bytes in
    let named : short_name a.kind ≡ Some c.in-Some.name.now = ap short_name (sym same.content) ∙ sym c.in-Some.ensures in
    rw (ap (λ name. typed_text shown a name) named)
    (both _ _ _ _ _ _ _ _ (rw c.as_bytes.ensures.value at c.put-behind.ensures) (both _ _ _ _ _ _ _ _ c.put-sign-2.ensures (c.put_value.ensures shown a.tag a.content tells spells.tag same.rest)))
