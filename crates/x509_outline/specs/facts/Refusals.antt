-- What the exit of a `?` hands on.
use Rattle.std.proofs.Common.{◌≡◌, Result, Ok, Err, IfErr, sym, subst}
use Rattle.std.specs.Prelude.{IsErrAnd}

-- what holds of the error holds of the result
pub refused_with : {T E : Type 0} (P : E → Type 0) (r : Result T E) (e : E) → IsErrAnd r (λ y. y ≡ e) → P e → IfErr r P
refused_with P (Ok v) e h p = tt
refused_with P (Err y) e h p = subst P (sym h) p
