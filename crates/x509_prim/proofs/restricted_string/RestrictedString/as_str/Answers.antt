use Rattle.x509_prim.proofs.restricted_string.RestrictedString.as_str.Goals as goal

pub ascii_text-requires : goal.ascii_text-requires
ascii_text-requires g c = rw c.as_bytes.ensures.bytes (g.met.C.AsciiCharSet.ascii c.args.self.now c.as_bytes.ensures.allowed)
