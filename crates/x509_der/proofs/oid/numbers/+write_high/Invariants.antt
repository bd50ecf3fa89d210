use Rattle.x509_der.proofs.oid.numbers.+write_high.Given as goal

abbrev pub decreases-write_high : goal.decreases-write_high
decreases-write_high l = l.number
