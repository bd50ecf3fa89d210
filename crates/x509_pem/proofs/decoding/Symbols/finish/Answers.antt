use Rattle.std.proofs.Common.{[], inr, refl, arith, append-nil, subst}
use Rattle.x509_pem.specs.Decoding.{SpellsNone}
use Rattle.x509_pem.proofs.Chunks.{finished_some, refused}
use Rattle.x509_pem.proofs.decoding.Symbols.finish.Goals as goal

pub returns-clause-some : goal.returns-clause-some
returns-clause-some c =
    finished_some c.append.result c.args.self.now c.args.out.now c.append.new.out c.append.ensures.some
    (λ i. let f = c.type_inv.out i in omega arith)

pub returns-clause-none : goal.returns-clause-none
returns-clause-none c = λ e text old so.
    subst SpellsNone (append-nil text)
    (refused text old [] c.args.out.now _ c.args.self.now so refl (c.append.ensures.none e [] (inr refl)))
