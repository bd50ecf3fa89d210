use Rattle.std.proofs.Common.{refl}
use Rattle.x509_flat.proofs.usage.FlatUsage.within.Goals as goal

pub returns : goal.returns
returns c = λ v whole f.
    rw (
      c.usage_bit_within.ensures v whole f,
      c.usage_bit_within-2.ensures v whole f,
      c.usage_bit_within-3.ensures v whole f,
      c.usage_bit_within-4.ensures v whole f,
      c.usage_bit_within-5.ensures v whole f,
      c.usage_bit_within-6.ensures v whole f,
      c.usage_bit_within-7.ensures v whole f,
      c.usage_bit_within-8.ensures v whole f,
      c.usage_bit_within-9.ensures v whole f,
    ) refl
