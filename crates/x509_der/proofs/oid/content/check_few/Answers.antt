use Rattle.std.proofs.Common.{arith, refl, sym, ap, ◌∙◌, length}
use Rattle.x509_der.specs.facts.ShortContent.{short_low, short_high, short_padded, short_done, short_cut}
use Rattle.x509_der.proofs.oid.content.check_few.Goals as goal
use Rattle.x509_der.proofs.oid.content.check_few.Goals.{then-digit-lt128, else-digit-lt128+else-pads}

pub returns-then-pads-clause-err : goal.returns-then-pads-clause-err
returns-then-pads-clause-err c = short_padded c.args.bytes.now c.loop-byte.byte-index c.loop-byte.is_fresh c.loop-byte.invariant _ 0 c.loop-byte-test.true refl (omega (arith, c.if-digit-lt128.false)) (sym c.pads.ensures ∙ c.if-pads.true)

pub loop-byte-preserved : goal.loop-byte-preserved
loop-byte-preserved c =
    elim c.if-digit-lt128.branch [
      | then-digit-lt128 w ↦ rw w.is_fresh-is (short_low c.args.bytes.now c.loop-byte.byte-index c.loop-byte.is_fresh c.loop-byte.invariant _ 0 c.loop-byte-test.true refl c.requires.few w.if-digit-lt128.true)
      | else-digit-lt128+else-pads w ↦ rw w.is_fresh-is (short_high c.args.bytes.now c.loop-byte.byte-index c.loop-byte.is_fresh c.loop-byte.invariant _ 0 c.loop-byte-test.true refl w.if-digit-lt128.false (omega (arith, c.type_inv.bytes c.loop-byte.byte-index)) (sym w.pads.ensures ∙ w.if-pads.false))
    ]

pub returns-then-is_fresh-clause-ok : goal.returns-then-is_fresh-clause-ok
returns-then-is_fresh-clause-ok c = short_done c.args.bytes.now c.loop-byte.byte-index (rw c.if-is_fresh.true at c.loop-byte.invariant) (omega (arith, c.loop-byte-test.false)) (λ e. omega (arith, c.requires.some, ap length e))

pub returns-else-is_fresh-clause-err : goal.returns-else-is_fresh-clause-err
returns-else-is_fresh-clause-err c = short_cut c.args.bytes.now c.loop-byte.byte-index (rw c.if-is_fresh.false at c.loop-byte.invariant) (omega (arith, c.loop-byte-test.false))
