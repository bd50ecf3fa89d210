use Rattle.x509_prim.specs.facts.Texts.{utf8-from_ascii}
use Rattle.x509_prim.proofs.restricted_string.ascii_text.Goals as goal

pub unreachable-requires : goal.unreachable-requires
unreachable-requires c = c.in_default.ensures.cases.0 (utf8-from_ascii c.args.bytes.now c.requires)
