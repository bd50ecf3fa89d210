use Rattle.x509_der.specs.facts.BitString.{pads_all}
use Rattle.x509_der.proofs.bit_string.BitString.with_bytes.Goals as goal

pub invariant_of-result : goal.invariant_of-result
invariant_of-result g c = (pads_all c.args.bytes.items).padded

pub returns : goal.returns
returns g c = (pads_all c.args.bytes.items).used
