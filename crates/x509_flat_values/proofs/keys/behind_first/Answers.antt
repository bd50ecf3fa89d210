use Rattle.x509_flat_values.proofs.Walking.{behind_one}
use Rattle.x509_flat_values.proofs.keys.behind_first.Goals as goal

pub returns : goal.returns
returns c = λ string more first here is. behind_one string more first c.args.bytes c.span-span.result here is c.span-span.ensures
