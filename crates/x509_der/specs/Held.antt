-- The bytes that are kept in a value or in memory.
use Rattle.std.specs.Prelude.{ℕ, List}
use Rattle.x509_der.specs.declared.oid.held.Held.{Held}
use Rattle.x509_der.specs.declared.oid.held.Held.TheVariants.{Short, Long}

abbrev pub held_bytes : {A : Type 0} → Held A → List ℕ
held_bytes (Short s) = s
held_bytes (Long v) = v.items
