use Rattle.x509_pem.proofs.WhiteSpace.{trimmed_between}
use Rattle.x509_pem.proofs.white.trimmed.Goals as goal

pub returns : goal.returns
returns c =
    trimmed_between c.args.bytes.now c.front_end-start.result c.back_start-end.result c.back_start-end.ensures.low
    c.back_start-end.ensures.bound c.front_end-start.ensures.white c.back_start-end.ensures.white c.front_end-start.ensures.other
    c.back_start-end.ensures.other
