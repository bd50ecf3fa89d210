use Rattle.picky_asn1_x509.specs.facts.TbsCertificates.{tbs_readable, readable_tbs}
use Rattle.picky_asn1_x509.proofs.laws.tbs_certificates_read_back.Goals as goal

pub returns : goal.returns
returns g c = λ v. (readable_tbs v, tbs_readable v)
