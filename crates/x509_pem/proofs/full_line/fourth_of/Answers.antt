use Rattle.x509_pem.proofs.Group.{fourth_entry}
use Rattle.x509_pem.proofs.full_line.fourth_of.Goals as goal

pub returns : goal.returns
returns c = fourth_entry c.args.symbol c.ranges.symbol.fits
