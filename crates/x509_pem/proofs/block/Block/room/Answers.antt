use Rattle.std.proofs.Common.{arith}
use Rattle.x509_pem.proofs.Text.{length_text}
use Rattle.x509_pem.proofs.block.Block.room.Goals as goal

pub overflow_add-result : goal.overflow_add-result
overflow_add-result g c =
    let fits = c.args.self.now.fits in
    omega (arith, fits, c.len.ensures, c.len-2.ensures, c.div_ceil.ensures)

pub overflow_sub-result : goal.overflow_sub-result
overflow_sub-result g c =
    let fits = c.args.self.now.fits in
    omega (arith, fits, c.len.ensures, c.len-2.ensures, c.div_ceil.ensures)

pub returns : goal.returns
returns g c =
    let self = c.args.self.now in
    let len = length_text self.bytes.items self.text.items in
    omega (arith, self.fits, len, c.len.ensures, c.len-2.ensures, c.div_ceil.ensures)
