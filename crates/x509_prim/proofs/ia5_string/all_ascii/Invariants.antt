use Rattle.std.proofs.Common.{◌≡◌, take}
use Rattle.std.specs.Prelude.{nat_lt}
use Rattle.std.specs.List.{list_all}
use Rattle.x509_prim.proofs.ia5_string.all_ascii.Given as goal

abbrev pub invariant-loop-byte : goal.invariant-loop-byte
invariant-loop-byte l = nat_lt l.greatest 128 ≡ list_all (λ c. nat_lt c 128) (take l.byte-index l.bytes)
