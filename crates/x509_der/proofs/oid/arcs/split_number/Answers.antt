use Rattle.std.proofs.Common.{◌+◌, ◌-◌, length, drop, get_or, refl, arith}
use Rattle.std.proofs.lemmas.List.{take_all, length-drop}
use Rattle.x509_der.specs.facts.OidContent.{split_below, split_high, split_low, split_never}
use Rattle.x509_der.proofs.oid.arcs.split_number.Goals as goal

pub overflow_mul-result : goal.overflow_mul-result
overflow_mul-result c = let k = split_below c.args.bytes.now c.requires c.loop-index.index c.loop-index.number c.loop-index.invariant in omega (arith, k)

pub overflow_add-result : goal.overflow_add-result
overflow_add-result c = let k = split_below c.args.bytes.now c.requires c.loop-index.index c.loop-index.number c.loop-index.invariant in omega (arith, k, c.if-byte-lt128.true)

pub returns-then-byte-lt128 : goal.returns-then-byte-lt128
returns-then-byte-lt128 c =
    let b = c.args.bytes.now in
    let i = c.loop-index.index in
    rw (take_all (length b - (i + 1)) (drop (i + 1) b) (omega (arith, length-drop (i + 1) b))) (split_low b c.requires i c.loop-index.number c.loop-index.invariant (get_or b i 0) 0 c.loop-index-test.true refl c.if-byte-lt128.true)

pub overflow_mul-number : goal.overflow_mul-number
overflow_mul-number c = let k = split_below c.args.bytes.now c.requires c.loop-index.index c.loop-index.number c.loop-index.invariant in omega (arith, k)

pub overflow_add-number : goal.overflow_add-number
overflow_add-number c = let k = split_below c.args.bytes.now c.requires c.loop-index.index c.loop-index.number c.loop-index.invariant in omega (arith, k, c.type_inv.bytes c.loop-index.index)

pub loop-index-preserved : goal.loop-index-preserved
loop-index-preserved c =
    split_high c.args.bytes.now c.requires c.loop-index.index c.loop-index.number c.loop-index.invariant (get_or c.args.bytes.now c.loop-index.index 0) 0 c.loop-index-test.true refl (omega (arith, c.if-byte-lt128.false)) (omega (arith, c.type_inv.bytes c.loop-index.index))

pub unreachable-requires : goal.unreachable-requires
unreachable-requires c = split_never c.args.bytes.now c.requires c.loop-index.index c.loop-index.number c.loop-index.invariant c.loop-index-test.false
