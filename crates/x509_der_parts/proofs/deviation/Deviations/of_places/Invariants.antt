use Rattle.std.proofs.Common.{◌≡◌, ◌≤◌, drop, sum}
use Rattle.std.specs.Prelude.{replicate}
use Rattle.x509_der_parts.specs.Reading.{tallied}
use Rattle.x509_der_parts.proofs.deviation.Deviations.of_places.Given as goal

abbrev pub invariant-loop-place : goal.invariant-loop-place
invariant-loop-place l = record {
  few : sum l.counts ≤ l.place-index;
  same : tallied l.counts (drop l.place-index l.places) ≡ tallied (replicate 10 0) l.places;
}
