use Rattle.std.proofs.Common.{[], ◌∷◌, arith, ap, length, length-append, sym, ◌∙◌, take, false, true, slice_index}
use Rattle.x509_pem.specs.Text.{solid}
use Rattle.x509_pem.proofs.WhiteSpace.{solid_more}
use Rattle.x509_pem.proofs.white.solid_len.Goals as goal
use Rattle.x509_pem.proofs.white.solid_len.Goals.{then-not-is_white, else-not-is_white}

pub bytes-preserved : goal.bytes-preserved
bytes-preserved c = elim c.if-not-is_white.branch [
  | then-not-is_white w ↦
      let s = c.args.bytes.now in
      let i = c.bytes.byte-index in
      let more =
      ap length (solid_more s i false c.bytes-test.true (sym c.is_white.ensures ∙ w.if-not-is_white.true))
      ∙ length-append (solid (take i s)) (slice_index s i ∷ []) in
      record { counted = omega (arith, more, w.len-is, c.bytes.invariant.counted); bound = omega (arith, w.len-is, c.bytes.invariant.bound) }
  | else-not-is_white w ↦
      let s = c.args.bytes.now in
      let i = c.bytes.byte-index in
      let more =
      ap length (solid_more s i true c.bytes-test.true (sym c.is_white.ensures ∙ w.if-not-is_white.false))
      ∙ length-append (solid (take i s)) [] in
      record { counted = omega (arith, more, w.len-is, c.bytes.invariant.counted); bound = omega (arith, w.len-is, c.bytes.invariant.bound) }
]
