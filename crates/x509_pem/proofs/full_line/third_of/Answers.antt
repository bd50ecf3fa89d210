use Rattle.x509_pem.proofs.Group.{third_entry}
use Rattle.x509_pem.proofs.full_line.third_of.Goals as goal

pub returns : goal.returns
returns c = third_entry c.args.symbol c.ranges.symbol.fits
