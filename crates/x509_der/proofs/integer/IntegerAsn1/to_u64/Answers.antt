use Rattle.std.proofs.Common.{◌≡◌, sym, ap, ◌∙◌}
use Rattle.x509_der.specs.Integer.{sign_bit}
use Rattle.x509_der.specs.facts.IntegerUnique.{sign_negative}
use Rattle.x509_der.specs.facts.NaturalNumber.{read_some}
use Rattle.x509_der.proofs.integer.IntegerAsn1.to_u64.Goals as goal

pub returns-then-has_sign_bit-clause-none : goal.returns-then-has_sign_bit-clause-none
returns-then-has_sign_bit-clause-none g c =
    let i : c.deref-2.result.now ≡ c.args.self.now = c.deref-2.ensures.value ∙ c.self.view_is in
    let j : c.deref.result.now ≡ c.args.self.now = c.deref.ensures.value ∙ c.self.view_is in
    λ n l e. sign_negative c.args.self.now (rw j at c.value_of-value.ensures.bytes) (ap sign_bit (sym i) ∙ sym c.has_sign_bit.ensures.sign ∙ c.if-has_sign_bit.true) n e

pub returns-else-has_sign_bit-clause-content : goal.returns-else-has_sign_bit-clause-content
returns-else-has_sign_bit-clause-content g c =
    let i : c.deref-2.result.now ≡ c.args.self.now = c.deref-2.ensures.value ∙ c.self.view_is in
    let j : c.deref.result.now ≡ c.args.self.now = c.deref.ensures.value ∙ c.self.view_is in
    let v = c.value_of-value in
    read_some c.args.self.now v.result (rw j at v.ensures.bytes) (rw c.self.view_is at c.self.invariant) (ap sign_bit (sym i) ∙ sym c.has_sign_bit.ensures.sign ∙ c.if-has_sign_bit.false) (rw j at v.ensures.some)
