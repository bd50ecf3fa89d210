use Rattle.std.proofs.Common.{◌≡◌, sym, ap, ◌∙◌}
use Rattle.std.specs.Prelude.{pos}
use Rattle.x509_der.specs.Integer.{signed_value, unsigned_value, sign_bit}
use Rattle.x509_der.specs.facts.Integer.{signed_value-low, signed_value-zero}
use Rattle.x509_der.proofs.integer.IntegerAsn1.from_bytes_be_unsigned.Goals as goal
use Rattle.x509_der.proofs.integer.IntegerAsn1.from_bytes_be_unsigned.Goals.{then-has_sign_bit+in_ok-insert, else-has_sign_bit}

pub returns-clause-number : goal.returns-clause-number
returns-clause-number g c =
    let all = c.args.bytes.items in
    let e : signed_value c.if-has_sign_bit.bytes.items ≡ pos (unsigned_value all) = elim c.if-has_sign_bit.branch [
      | then-has_sign_bit+in_ok-insert w ↦ rw (w.bytes-is, w.in_ok-insert.ensures.items) (signed_value-zero all)
      | else-has_sign_bit w ↦ rw w.bytes-is (signed_value-low all (ap sign_bit (sym c.as_slice.ensures.value) ∙ sym c.has_sign_bit.ensures.sign ∙ w.if-has_sign_bit.false))
    ] in
    rw e at c.from_bytes_be_signed.ensures.number
