use Rattle.std.proofs.Common.{rules}
use Rattle.x509_prim.proofs.bmp_string.BmpCharSetCharSet.allows.Goals as goal

pub returns : goal.returns
returns c = search (rules)
