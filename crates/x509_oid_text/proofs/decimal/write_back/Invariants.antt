use Rattle.std.proofs.Common.{◌≡◌, ◌+◌, ◌≤◌, ◌++◌, drop, length}
use Rattle.std.specs.Fmt.{decimal}
use Rattle.x509_oid_text.proofs.decimal.write_back.Given as goal

-- the digits behind are written, and in front is room for those of what is left
abbrev pub invariant-digits : goal.invariant-digits
invariant-digits l =
    record {
      size : length l.room ≡ 20;
      written : decimal l.number ≡ decimal l.rest ++ drop (l.at + 1) l.room;
      low : length (decimal l.rest) ≤ l.at + 1;
      high : l.at ≤ 19;
    }

abbrev pub decreases-digits : goal.decreases-digits
decreases-digits l = l.rest
