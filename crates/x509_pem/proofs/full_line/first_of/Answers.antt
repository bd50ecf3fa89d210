use Rattle.x509_pem.proofs.Group.{first_entry}
use Rattle.x509_pem.proofs.full_line.first_of.Goals as goal

pub returns : goal.returns
returns c = first_entry c.args.symbol c.ranges.symbol.fits
