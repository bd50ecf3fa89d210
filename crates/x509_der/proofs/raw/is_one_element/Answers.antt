use Rattle.x509_der.proofs.Raws.{raw_all, raw_none}
use Rattle.x509_der.proofs.raw.is_one_element.Goals as goal

pub returns-in-Some : goal.returns-in-Some
returns-in-Some c = raw_all c.args.bytes.now c.in-Some.element c.in-Some.ensures

pub returns-in-None : goal.returns-in-None
returns-in-None c = (λ e. cc, λ h. absurd (raw_none c.args.bytes.now c.in-None.ensures h))
