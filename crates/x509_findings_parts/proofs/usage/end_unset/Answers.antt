use Rattle.std.proofs.Common.{◌-◌, not, get_or, length, ap, sym, ◌∙◌, arith}
use Rattle.x509_der.specs.BitString.{has_bit, unused_bits}
use Rattle.x509_findings_parts.proofs.UsageFacts.{last_bit, no_bit}
use Rattle.x509_findings_parts.proofs.usage.end_unset.Goals as goal

pub returns-then-size-eq0 : goal.returns-then-size-eq0
returns-then-size-eq0 g c = sym (ap not (no_bit c.args.usage.now c.as_bytes-bytes.result.now c.as_bytes-bytes.ensures.bits c.if-size-eq0.true))

pub returns : goal.returns
returns g c =
    let v = c.args.usage.now in
    let s = c.as_bytes-bytes.result.now in
    ap not (c.has_bit.ensures ∙ ap (λ n. has_bit (get_or s (length s - 1) 0) (unused_bits n)) c.len.ensures ∙ last_bit v s (length s - 1) c.as_bytes-bytes.ensures.bits (omega (arith, c.if-size-eq0.false)))
