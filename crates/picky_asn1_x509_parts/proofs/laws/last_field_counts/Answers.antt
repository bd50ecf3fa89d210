use Rattle.x509_der.specs.facts.Lasts.{last_there, last_absent}
use Rattle.picky_asn1_x509_parts.proofs.laws.last_field_counts.Goals as goal

pub returns-clause-there : goal.returns-clause-there
returns-clause-there g c = last_there

pub returns-clause-absent : goal.returns-clause-absent
returns-clause-absent g c = last_absent
