use Rattle.x509_names.specs.EdiPartyNames.{edi_parts}
use Rattle.x509_names.specs.facts.EdiPartyNames.{edi_same}
use Rattle.x509_der.specs.facts.SameEq.{both_decide, told_decide}
use Rattle.x509_names.proofs.edi_party_name.EdiPartyNameSameEq.decides.Goals as goal

pub returns : goal.returns
returns g c = told_decide edi_parts edi_same (both_decide c.decides.ensures c.decides-2.ensures)
