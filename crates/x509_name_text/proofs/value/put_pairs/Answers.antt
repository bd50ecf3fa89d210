use Rattle.std.proofs.Common.{arith}
use Rattle.x509_name_text.specs.Texts.{pairs_text}
use Rattle.x509_name_text.proofs.Writing.{both, pairs_more, nothing}
use Rattle.x509_name_text.proofs.value.put_pairs.Goals as goal

pub bytes-init : goal.bytes-init
unfolding pairs_text
bytes-init c = nothing _ _ (omega (arith, c.ranges.at.fits))

pub bytes-preserved : goal.bytes-preserved
bytes-preserved c =
    rw (pairs_more c.args.bytes.now c.bytes.byte-index (omega (arith, c.bytes-test.true))) (both _ _ _ _ _ _ _ _ c.bytes.invariant (both _ _ _ _ _ _ _ _ c.put-at.ensures c.put_hex-at.ensures))
