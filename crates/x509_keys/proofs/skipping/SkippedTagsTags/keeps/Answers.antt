use Rattle.std.proofs.Common.{rules}
use Rattle.x509_keys.proofs.skipping.SkippedTagsTags.keeps.Goals as goal

pub returns : goal.returns
returns c = search (rules)
