-- Fields that are refused where they don't pass a test.
use Rattle.std.specs.Prelude.{Bool, true, false, List, Option, Some, None}
use Rattle.x509_der.specs.Types.{Deviation}

-- the value with its deviations, where the test is passed; else nothing
abbrev pub read_if : {V : Type 0} → Bool → V → List Deviation → Option (V × List Deviation)
read_if true v ks = Some (v, ks)
read_if false v ks = None
