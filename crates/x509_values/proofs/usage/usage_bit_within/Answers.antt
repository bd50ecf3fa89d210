use Rattle.std.proofs.Common.{◌∙◌}
use Rattle.x509_values.proofs.Usages.{bit_within}
use Rattle.x509_values.proofs.usage.usage_bit_within.Goals as goal

pub returns : goal.returns
returns c = λ v whole f. bit_within v c.args.span c.args.bytes.now whole c.args.index c.named_bit.result f c.over-usage.result c.take.new.self c.take.result c.over-usage.ensures c.take.ensures (λ u h. c.named_bit.ensures u (c.bytes.ensures ∙ h))
