use Rattle.x509_der.proofs.sequence_of.Asn1SequenceOfContent.read_content.Goals as goal

pub returns : goal.returns
returns g c = rw c.items.view_is c.in_ok-items.ensures
