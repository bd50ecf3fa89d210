use Rattle.std.proofs.Common.{refl}
use Rattle.x509_pem.proofs.Chunks.{pushed}
use Rattle.x509_pem.proofs.decoding.Symbols.take.Goals as goal

pub returns-clause-taken : goal.returns-clause-taken
returns-clause-taken c = λ e text old so.
    pushed text old c.flush.new.out c.flush.new.self _ c.args.symbol (c.flush.ensures.taken c.if-not-flush.false text old so)
    (c.flush.ensures.room c.if-not-flush.false) refl refl refl
