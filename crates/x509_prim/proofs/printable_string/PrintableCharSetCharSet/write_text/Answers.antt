use Rattle.x509_prim.specs.facts.Texts.{ascii-from_printable}
use Rattle.x509_prim.proofs.printable_string.PrintableCharSetCharSet.write_text.Goals as goal

pub ascii_text-requires : goal.ascii_text-requires
ascii_text-requires g c = ascii-from_printable c.args.bytes.now c.requires
