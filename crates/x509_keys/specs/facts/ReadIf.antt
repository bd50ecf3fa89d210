-- Fields that are refused where they don't pass a test.
use Rattle.std.proofs.Common.{◌≡◌, refl, Bool, true, false, List, Some}
use Rattle.x509_der.specs.Types.{Deviation}
use Rattle.x509_der.specs.laws.View.{some_one}
use Rattle.x509_keys.specs.ReadIf.{read_if}

pub was_read : {V : Type 0} (t : Bool) (v w : V) (ks ls : List Deviation) → read_if t v ks ≡ Some (w, ls) → (t ≡ true) × ((v ≡ w) × (ks ≡ ls))
was_read true v w ks ls e = (refl, some_one v w ks ls e)
was_read false v w ks ls e = cc
