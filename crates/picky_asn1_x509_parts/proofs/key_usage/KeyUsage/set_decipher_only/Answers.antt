use Rattle.picky_asn1_x509_parts.proofs.key_usage.KeyUsage.set_decipher_only.Goals as goal

pub returns : goal.returns
returns g c = record { ok = c.put.ensures.ok; err = c.put.ensures.err; spares = c.put.ensures.spares }
