use Rattle.std.proofs.Common.{ap, ◌∙◌, take, drop, refl, arith}
use Rattle.std.specs.Int.{w64, from_be_bytes}
use Rattle.x509_timestamps.specs.facts.Timestamps.{body_none, body_read}
use Rattle.x509_timestamps.proofs.timestamp.body.Goals as goal

pub returns-in_err-extensions : goal.returns-in_err-extensions
returns-in_err-extensions c =
    let rest = c.split_at-2.ensures.back ∙ ap (drop 8) c.split_at.ensures.back in
    rw (c.from_residual.ensures, body_none c.args.bytes.now c.split_at-2.result.1.now (omega (arith, c.if-bytes-lt40.false)) rest c.in_err-extensions.ensures) refl

pub returns : goal.returns
returns c =
    let rest = c.split_at-2.ensures.back ∙ ap (drop 8) c.split_at.ensures.back in
    let time = c.number.ensures ∙ ap (from_be_bytes w64) (c.split_at-2.ensures.front ∙ ap (take 8) c.split_at.ensures.back) in
    rw (body_read c.args.bytes.now c.split_at.result.0.now c.split_at-2.result.1.now c.number.result c.in_ok-extensions.extensions.now c.in_ok-extensions.rest.now (omega (arith, c.if-bytes-lt40.false)) c.split_at.ensures.front rest time c.in_ok-extensions.ensures) c.signed.ensures
