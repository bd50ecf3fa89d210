use Rattle.picky_asn1_x509_parts.proofs.Makers.{made_of}
use Rattle.picky_asn1_x509_parts.proofs.extension.Extension.new_subject_alt_name.Goals as goal

pub returns : goal.returns
returns g c = made_of _ _ _ c.subject_alternative_name.result c.identified.result c.identified.ensures c.subject_alternative_name.ensures.arcs
