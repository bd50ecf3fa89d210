use Rattle.std.proofs.Common.{◌≡◌, take, drop, map}
use Rattle.x509_flat.specs.Places.{flat_place}
use Rattle.x509_flat.proofs.places.copy_places.Given as goal

-- the places so far are written, and what stands behind them is as it was
abbrev pub invariant-loop-index : goal.invariant-loop-index
invariant-loop-index l = record {
  front : take l.index l.out ≡ map flat_place (take l.index l.places);
  behind : drop l.index l.out ≡ drop l.index l.initial.out;
}
