use Rattle.std.proofs.Common.{arith}
use Rattle.x509_name_text.specs.Texts.{hex_text}
use Rattle.x509_name_text.proofs.Writing.{both, hex_more, nothing}
use Rattle.x509_name_text.proofs.put.put_hex.Goals as goal

pub bytes-init : goal.bytes-init
unfolding hex_text
bytes-init c = nothing _ _ (omega (arith, c.ranges.at.fits))

pub bytes-preserved : goal.bytes-preserved
bytes-preserved c =
    rw (hex_more c.args.is_upper c.args.bytes.now c.bytes.byte-index (omega (arith, c.bytes-test.true))) (both _ _ _ _ _ _ _ _ c.bytes.invariant (rw (c.digit.ensures, c.digit-in-bytes.ensures) at c.put-at.ensures))
