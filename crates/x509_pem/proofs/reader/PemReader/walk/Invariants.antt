use Rattle.std.proofs.Common.{◌≡◌}
use Rattle.x509_pem.specs.Reader.{limit_of, longest_of, place_of}
use Rattle.x509_pem.specs.Step.{WalkedTo}
use Rattle.x509_pem.proofs.reader.PemReader.walk.Given as goal

abbrev pub invariant-lines : goal.invariant-lines
invariant-lines g l =
    record {
      walked : WalkedTo (g.R.Read.remaining l.initial.self.lines.input) (place_of l.initial.self)
          (g.R.Read.remaining l.self.lines.input) (place_of l.self);
      limit : limit_of l.self ≡ limit_of l.initial.self;
      longest : longest_of l.self ≡ longest_of l.initial.self;
    }
