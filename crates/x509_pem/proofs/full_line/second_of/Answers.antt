use Rattle.x509_pem.proofs.Group.{second_entry}
use Rattle.x509_pem.proofs.full_line.second_of.Goals as goal

pub returns : goal.returns
returns c = second_entry c.args.symbol c.ranges.symbol.fits
