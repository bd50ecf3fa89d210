use Rattle.std.proofs.Common.{get_or, rules}
use Rattle.std.specs.Prelude.{slice_index}
use Rattle.std.proofs.lemmas.List.FromFn.{fill_by_all}
use Rattle.x509_der_parts.specs.declared.deviation.Deviation.TheVariants.{RsaParametersAbsent}
use Rattle.x509_der_parts.specs.Deviations.{kinds}
use Rattle.x509_der_parts.proofs.deviation.Deviations.pairs.Goals as goal

pub returns : goal.returns
returns c =
    fill_by_all (λ k. (get_or kinds k RsaParametersAbsent, slice_index c.args.self.now k)) c.loop-index.pairs 10 (RsaParametersAbsent, 0) c.loop-index.invariant.ten (search rules)
