use Rattle.std.proofs.Common.{arith}
use Rattle.x509_pem.proofs.Text.{length_text}
use Rattle.x509_pem.proofs.block.Block.add.Goals as goal

pub invariant_of-self : goal.invariant_of-self
invariant_of-self g c =
    let self = c.args.self.now in
    let before = length_text self.bytes.items self.text.items in
    record {
      octets = self.octets;
      groups = self.groups;
      fits = omega (arith, before, c.room.ensures, c.if-solid_len-room.false, c.solid_len.ensures, c.append_solid.ensures.bound);
    }
