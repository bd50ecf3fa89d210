use Rattle.x509_der.proofs.set_of.Asn1SetOfContent.read_content.Goals as goal

pub returns : goal.returns
returns g c = rw c.items.view_is c.in_ok-items.ensures
