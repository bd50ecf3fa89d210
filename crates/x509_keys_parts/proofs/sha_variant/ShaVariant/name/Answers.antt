use Rattle.std.proofs.Common.{rules}
use Rattle.x509_keys_parts.proofs.sha_variant.ShaVariant.name.Goals as goal

pub returns-in-SHA2_384 : goal.returns-in-SHA2_384
returns-in-SHA2_384 c = search (rules)
