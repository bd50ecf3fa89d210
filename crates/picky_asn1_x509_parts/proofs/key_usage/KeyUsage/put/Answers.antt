use Rattle.std.proofs.Common.{rules}
use Rattle.picky_asn1_x509_parts.proofs.key_usage.KeyUsage.put.Goals as goal

pub returns-in_err-set_num_bits-clause-spares : goal.returns-in_err-set_num_bits-clause-spares
returns-in_err-set_num_bits-clause-spares g c = search (rules)

pub returns-clause-ok : goal.returns-clause-ok
returns-clause-ok g c = search (rules)
