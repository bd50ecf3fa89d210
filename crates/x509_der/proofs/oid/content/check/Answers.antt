use Rattle.std.specs.Prelude.{◌≡◌, ℕ, ◌==◌, ◌&&◌, ◌*◌, ◌+◌, ◌-◌, ◌≤◌, false, zero, suc}
use Rattle.std.proofs.Common.{arith, refl, sym, ap, ◌∙◌, subst}
use Rattle.std.proofs.lemmas.Bool.{ne_eqb}
use Rattle.x509_der.specs.facts.ObjectIdentifier.{numbering_large, numbering_zero, numbering_cut, no_oid}
use Rattle.x509_der_parts.specs.reads.Optional.{empty_is, not_empty_is}
use Rattle.x509_der.specs.facts.OidContent.{Checking, checking_low, checking_high, checked, nothing}
use Rattle.x509_der.proofs.oid.content.check.Goals as goal
use Rattle.x509_der.proofs.oid.content.check.Goals.{then-digit-lt128, else-digit-lt128+else-padded}

pub returns-then-is_empty-clause-err : goal.returns-then-is_empty-clause-err
returns-then-is_empty-clause-err c = nothing c.args.bytes.now (empty_is c.args.bytes.now (sym c.is_empty.ensures ∙ c.if-is_empty.true))

pub returns-then-number-ge-FULL-clause-err : goal.returns-then-number-ge-FULL-clause-err
returns-then-number-ge-FULL-clause-err c = let s = c.loop-byte.invariant in no_oid c.args.bytes.now (numbering_large c.args.bytes.now s.numbers c.loop-byte.byte-index c.loop-byte.number (c.loop-byte.number == 0) s.state (omega (arith, c.if-number-ge-FULL.true)))

pub returns-then-padded-clause-err : goal.returns-then-padded-clause-err
returns-then-padded-clause-err c = let s = c.loop-byte.invariant in no_oid c.args.bytes.now (numbering_zero c.args.bytes.now s.numbers c.loop-byte.byte-index c.loop-byte.number (c.loop-byte.number == 0) s.state _ 0 c.loop-byte-test.true refl (omega (arith, c.if-digit-lt128.false)) (sym c.is_padding-padded.ensures ∙ c.if-padded.true))

-- behind a digit that isn't padding, something was read
going_on : (number digit : ℕ) → 128 ≤ digit → ((number == 0) && (digit == 128)) ≡ false → ((number * 128 + (digit - 128)) == 0) ≡ false
going_on zero digit h e = ne_eqb (0 * 128 + (digit - 128)) 0 (λ z. let d : digit ≡ 128 = omega (arith, z, h) in let k : ((0 == 0) && (128 == 128)) ≡ false = subst (λ x. ((0 == 0) && (x == 128)) ≡ false) d e in absurd (cc))
going_on (suc n) digit h e = ne_eqb (suc n * 128 + (digit - 128)) 0 (λ z. absurd (omega (arith, z)))

pub loop-byte-preserved : goal.loop-byte-preserved
loop-byte-preserved c =
    elim c.if-digit-lt128.branch [
      | then-digit-lt128 w ↦ rw w.number-is (checking_low c.args.bytes.now c.loop-byte.byte-index c.loop-byte.number (c.loop-byte.number == 0) _ 0 c.loop-byte.invariant c.loop-byte-test.true refl w.if-digit-lt128.true (omega (arith, c.if-number-ge-FULL.false, w.if-digit-lt128.true)))
      | else-digit-lt128+else-padded w ↦ rw w.number-is (subst (Checking c.args.bytes.now (c.loop-byte.byte-index + 1) _) (sym (going_on c.loop-byte.number _ w.if-digit-lt128.false (sym w.is_padding-padded.ensures ∙ w.if-padded.false)))
          (checking_high c.args.bytes.now c.loop-byte.byte-index c.loop-byte.number (c.loop-byte.number == 0) _ 0 c.loop-byte.invariant c.loop-byte-test.true refl w.if-digit-lt128.false (omega (arith, c.type_inv.bytes c.loop-byte.byte-index)) (sym w.is_padding-padded.ensures ∙ w.if-padded.false)))
    ]

pub returns-then-number-eq0-clause-ok : goal.returns-then-number-eq0-clause-ok
returns-then-number-eq0-clause-ok c = checked c.args.bytes.now c.loop-byte.byte-index c.loop-byte.number (c.loop-byte.number == 0) c.loop-byte.invariant (omega (arith, c.loop-byte-test.false)) (not_empty_is c.args.bytes.now (sym c.is_empty.ensures ∙ c.if-is_empty.false)) (ap (λ n. n == 0) c.if-number-eq0.true)

pub returns-else-number-eq0-clause-err : goal.returns-else-number-eq0-clause-err
returns-else-number-eq0-clause-err c = let s = c.loop-byte.invariant in no_oid c.args.bytes.now (numbering_cut c.args.bytes.now s.numbers c.loop-byte.byte-index c.loop-byte.number (c.loop-byte.number == 0) s.state (omega (arith, c.loop-byte-test.false)) (ne_eqb c.loop-byte.number 0 c.if-number-eq0.false))
