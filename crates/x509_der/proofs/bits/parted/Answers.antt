use Rattle.std.proofs.Common.{◌≡◌, ◌∷◌, true, false, get_or, sym, ap, ◌∙◌, arith}
use Rattle.x509_der.specs.facts.BitString.{parted_is, not_parted, head_tail}
use Rattle.x509_der.proofs.bits.parted.Goals as goal

pub returns-then-is_padded-clause-some : goal.returns-then-is_padded-clause-some
returns-then-is_padded-clause-some c =
    let p = c.args.content.now in
    let e = head_tail p (sym c.is_empty.ensures ∙ c.if-is_empty.false) ∙ ap (λ x. get_or p 0 0 ∷ x) (sym c.split_at.ensures.back) in
    parted_is p (get_or p 0 0) c.split_at.result.1.now (λ k. omega (arith, c.type_inv.content k)) e (c.is_padded.ensures.0 c.if-is_padded.true)

pub returns-else-is_padded-clause-none : goal.returns-else-is_padded-clause-none
returns-else-is_padded-clause-none c =
    let p = c.args.content.now in
    let e = head_tail p (sym c.is_empty.ensures ∙ c.if-is_empty.false) ∙ ap (λ x. get_or p 0 0 ∷ x) (sym c.split_at.ensures.back) in
    not_parted p (get_or p 0 0) c.split_at.result.1.now e (λ h. let t : true ≡ false = sym (c.is_padded.ensures.1 h) ∙ c.if-is_padded.false in cc)
