use Rattle.picky_asn1_x509.proofs.certificate.Certificate.extensions.Goals as goal

-- a search finds it without this file, in eight seconds
pub returns : goal.returns
returns g c = rw (← c.self.view_is, ← c.self-inside.view_is) c.as_slice.ensures.value
