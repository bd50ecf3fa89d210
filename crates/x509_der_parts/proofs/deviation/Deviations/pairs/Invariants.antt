use Rattle.std.proofs.Common.{◌≡◌, ℕ, ◌<◌, length, get_or}
use Rattle.std.specs.Prelude.{slice_index}
use Rattle.x509_der_parts.specs.declared.deviation.Deviation.TheVariants.{RsaParametersAbsent}
use Rattle.x509_der_parts.specs.Deviations.{kinds}
use Rattle.x509_der_parts.proofs.deviation.Deviations.pairs.Given as goal

abbrev pub invariant-loop-index : goal.invariant-loop-index
invariant-loop-index l = record {
  ten : length l.pairs ≡ 10;
  done : (k : ℕ) → k < l.index → get_or l.pairs k (RsaParametersAbsent, 0) ≡ (get_or kinds k RsaParametersAbsent, slice_index l.self k);
}
