use Rattle.x509_values.proofs.Usages.{named_in}
use Rattle.x509_values.proofs.usage.named_bit.Goals as goal

pub returns-in-len1-up : goal.returns-in-len1-up
returns-in-len1-up c = named_in c.args.content.now c.args.index c.bit_at.result c.bit_at.ensures
