use Rattle.std.proofs.Common.{◌≡◌, ℕ, ◌+◌, ◌<◌, ◌≤◌, length}
use Rattle.std.specs.Prelude.{slice_index}
use Rattle.x509_der_parts.proofs.deviation.differences.Given as goal

abbrev pub invariant-loop-kind : goal.invariant-loop-kind
invariant-loop-kind l = record {
  done : (k : ℕ) → k < l.kind → slice_index l.counts k + slice_index l.earlier k ≡ slice_index l.fn.later k;
  left : (k : ℕ) → l.kind ≤ k → slice_index l.counts k ≡ slice_index l.fn.later k;
  ten : length l.counts ≡ 10;
}
