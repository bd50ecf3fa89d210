use Rattle.std.proofs.Common.{rules, refl}
use Rattle.std.proofs.lemmas.Bool.{false≢true}
use Rattle.x509_pem.proofs.Text.{decoded_bytes, decoded_fits, text_kept, text_decodes}
use Rattle.x509_pem.proofs.block.Block.close.Goals as goal

pub returns-in-Ok-clause-closes : goal.returns-in-Ok-clause-closes
returns-in-Ok-clause-closes g c =
    let self = c.args.self.now in
    let rest = rw c.as_slice-2.ensures.value at c.in-Ok.ensures.ok in
    let whole = c.is_decodable.ensures c.if-not-is_decodable.false in (
      search rules,
      (
        refl,
        text_kept self.bytes.items self.text.items c.decode_rest.new.bytes.items c.clear.new.self.items whole rest c.clear.ensures.items,
        text_decodes self.bytes.items self.text.items c.decode_rest.new.bytes.items c.clear.new.self.items self.octets rest
            c.clear.ensures.items,
        refl,
        refl,
      ),
    )

pub invariant_of-self-in-Ok : goal.invariant_of-self-in-Ok
invariant_of-self-in-Ok g c =
    let self = c.args.self.now in
    let rest = rw c.as_slice-2.ensures.value at c.in-Ok.ensures.ok in
    let whole = c.is_decodable.ensures c.if-not-is_decodable.false in
    record {
      octets = decoded_bytes self.bytes.items self.text.items c.decode_rest.new.bytes.items self.octets rest;
      groups = λ is. absurd (false≢true is);
      fits = decoded_fits self.bytes.items self.text.items c.decode_rest.new.bytes.items c.clear.new.self.items self.limit whole rest
          c.clear.ensures.items self.fits;
    }
