use Rattle.std.proofs.lemmas.Bool.{false≢true}
use Rattle.x509_prim.specs.facts.Texts.{utf8-from_ascii}
use Rattle.x509_prim.proofs.restricted_string.RestrictedString.into_string.Goals as goal

pub unreachable-requires : goal.unreachable-requires
unreachable-requires g c = false≢true (c.in_default.ensures.succeeds (rw c.into_bytes.ensures.bytes (utf8-from_ascii c.args.self (g.met.C.AsciiCharSet.ascii c.args.self c.into_bytes.ensures.allowed))))
