use Rattle.x509_keys.specs.facts.ReadBack.{info_readable, ec_key_readable}
use Rattle.x509_keys.proofs.laws.private_keys_read_back.Goals as goal

pub returns-clause-exactly : goal.returns-clause-exactly
returns-clause-exactly g c = info_readable

pub returns-clause-curves : goal.returns-clause-curves
returns-clause-curves g c = ec_key_readable
