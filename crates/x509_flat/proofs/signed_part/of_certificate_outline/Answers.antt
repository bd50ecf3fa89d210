use Rattle.std.proofs.Common.{arith}
use Rattle.x509_flat.proofs.SignedParts.{part_fits, signed_in}
use Rattle.x509_flat.proofs.signed_part.of_certificate_outline.Goals as goal

pub told-requires : goal.told-requires
told-requires g c =
    let p = c.in-Ok.ensures.ok.1 in
    part_fits c.args.bytes.now c.in-Ok.checked.signed.now p.after c.in-Ok.checked.start p.bytes c.in-Ok.ensures.start (omega arith)

pub returns-in-Ok : goal.returns-in-Ok
returns-in-Ok g c = record {
  done = λ _. signed_in _ _ _ c.args.bytes.now c.in-Ok.ensures.ok.0 c.in-Ok.checked.signed.now c.in-Ok.checked.inside c.in-Ok.checked.outside c.in-Ok.checked.start c.told.result.signed c.in-Ok.ensures.ok.1 c.in-Ok.ensures.start c.told.ensures.signed;
  refused = λ e. absurd (cc);
  memory = λ e. absurd (cc);
  others = record { short = λ e. cc; unknown = λ e. cc; long = λ e. cc };
}

pub returns-in-Err : goal.returns-in-Err
returns-in-Err g c = record {
  done = λ e. absurd (c.refused.ensures.status.done e);
  refused = λ e. (c.refused.ensures.signed, c.in-Err.ensures.err.1);
  memory = λ e. c.in-Err.ensures.err.0 (c.refused.ensures.status.memory e);
  others = c.refused.ensures.status.others;
}
