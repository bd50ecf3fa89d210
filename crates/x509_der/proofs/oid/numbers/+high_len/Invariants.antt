use Rattle.x509_der.proofs.oid.numbers.+high_len.Given as goal

abbrev pub decreases-high_len : goal.decreases-high_len
decreases-high_len l = l.number
