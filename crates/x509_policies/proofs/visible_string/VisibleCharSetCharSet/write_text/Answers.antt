use Rattle.x509_policies.specs.facts.VisibleString.{ascii-from_visible}
use Rattle.x509_policies.proofs.visible_string.VisibleCharSetCharSet.write_text.Goals as goal

pub write_text-requires : goal.write_text-requires
write_text-requires g c = ascii-from_visible c.args.bytes.now c.requires
