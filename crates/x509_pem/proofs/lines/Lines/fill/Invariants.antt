use Rattle.std.proofs.Common.{◌≡◌}
use Rattle.x509_pem.specs.Part.{Filling}
use Rattle.x509_pem.proofs.lines.Lines.fill.Given as goal

abbrev pub invariant-parts : goal.invariant-parts
invariant-parts g l =
    record {
      filling : Filling l.fn.self.limit (g.R.Read.remaining l.fn.self.input) (g.R.Read.remaining l.self.input) l.self.lack l.self.held.items l.line;
      limit : l.self.limit ≡ l.fn.self.limit;
      count : l.self.count ≡ l.fn.self.count;
      returned : l.self.returned ≡ l.fn.self.returned;
    }
