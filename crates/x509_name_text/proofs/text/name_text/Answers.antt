use Rattle.std.proofs.Common.{◌≡◌, min, List, ℕ, ◌++◌, [], ap, sym, ◌∙◌, refl, arith, length, append-nil}
use Rattle.x509_der.specs.Element.{element}
use Rattle.x509_name_text.specs.Texts.{name_text}
use Rattle.x509_name_text.proofs.Elements.{next_is}
use Rattle.x509_name_text.proofs.text.name_text.Goals as goal

pub returns-then-out-len-clause-exact : goal.returns-then-out-len-clause-exact
returns-then-out-len-clause-exact c = λ shown sets tells is.
    let same = next_is c.new.result c.next.result c.next.new.self 48 is.inner [] refl c.next.ensures (c.new.ensures.rest ∙ is.bytes ∙ sym (append-nil (element 48 is.inner))) in
    (c.text_len-len.ensures shown sets tells (rw (sym same.content) at is.are), c.if-out-len.true, refl)

pub returns-clause-exact : goal.returns-clause-exact
returns-clause-exact c = λ shown sets tells is.
    let same = next_is c.new.result c.next.result c.next.new.self 48 is.inner [] refl c.next.ensures (c.new.ensures.rest ∙ is.bytes ∙ sym (append-nil (element 48 is.inner))) in
    let are = rw (sym same.content) at is.are in
    let len = c.text_len-len.ensures shown sets tells are in
    let text = name_text shown sets in
    let small : c.text_len-len.result ≡ min 18446744073709551615 (length text) = len in
    let exact : c.text_len-len.result ≡ length text = omega (arith, small, c.if-out-len.false) in
    let written = c.put_back.ensures.name shown sets tells are (c.split_at_mut-front.ensures.front_len ∙ exact) in
    (exact, omega (arith, c.if-out-len.false), ap (λ (t : List ℕ). t ++ c.split_at_mut-front.result.1.now) written ∙ ap (λ (t : List ℕ). text ++ t) c.split_at_mut-front.ensures.back)
