use Rattle.x509_pem.specs.Reader.{place_at}
use Rattle.x509_pem.proofs.Skip.{skipped}
use Rattle.std.proofs.Common.{sym, ◌∙◌}
use Rattle.x509_pem.proofs.reader.PemReader.take_full.Goals as goal

pub returns-in-Ok-clause-taken : goal.returns-in-Ok-clause-taken
returns-in-Ok-clause-taken g c =
    skipped (g.R.Read.remaining c.args.self.now.lines.input) (g.R.Read.remaining c.take_full.new.self.input) c.in-Ok.taken
    (place_at c.args.self.now.lines c.args.self.now.block) (place_at c.take_full.new.self c.take_full.new.block)
    (sym c.is_open.ensures ∙ c.if-not-is_open.false) c.in-Ok.ensures.taken
