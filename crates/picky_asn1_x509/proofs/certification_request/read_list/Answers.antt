use Rattle.picky_asn1_x509.proofs.certification_request.read_list.Goals as goal

pub returns : goal.returns
returns g c = rw c.into_inner.ensures c.in_ok-list.ensures
