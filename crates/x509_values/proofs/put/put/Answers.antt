use Rattle.std.proofs.Common.{ap, sym, ◌∙◌, arith, set, length}
use Rattle.x509_values.proofs.Filling.{fill_more, fill_full, length_filled}
use Rattle.x509_values.proofs.put.put.Goals as goal

pub returns-then-out-count : goal.returns-then-out-count
returns-then-out-count g c = λ done base size is. is ∙ fill_full done base c.args.item (omega (arith, size, ap length is, length_filled done base))

pub returns : goal.returns
returns g c = λ done base size is. ap (λ x. set x c.args.count c.args.item) is ∙ fill_more done base c.args.item c.args.count (sym size) (omega (arith, ap length is, length_filled done base))
