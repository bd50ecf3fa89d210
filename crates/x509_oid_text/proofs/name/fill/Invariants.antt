use Rattle.std.proofs.Common.{◌≡◌, ◌≤◌, ◌++◌, length, take}
use Rattle.x509_oid_text.proofs.name.fill.Given as goal

abbrev pub invariant-arcs : goal.invariant-arcs
invariant-arcs l =
    record {
      arcs : l.fn.arcs ≡ l.yielded ++ l.arc-iterator;
      count : l.count ≡ length l.yielded;
      size : length l.row ≡ 16;
      few : l.count ≤ 16;
      written : take l.count l.row ≡ l.yielded;
    }
