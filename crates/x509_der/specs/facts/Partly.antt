-- Types whose values are some of those of a base: other values of the base are refused. There are no deviations over the whole.
use Rattle.std.proofs.Common.{◌≡◌, ap, sym, subst, List, [], length, Option, Some, None, arith}
use Rattle.x509_der.specs.Types.{Deviation}
use Rattle.x509_der.specs.Shape.{Shape}
use Rattle.x509_der.specs.laws.View.{some_one}
use Rattle.x509_der.specs.laws.Meaning.{IsMeaning, Markable, seen_one}
use Rattle.x509_der.specs.View.{IsSeen}
use Rattle.x509_der.specs.Partly.{partly, unmarked}

pub means_value : {V : Type 0} (o : Option V) (v : V) (ks : List Deviation) → unmarked o ≡ Some (v, ks) → (o ≡ Some v) × (ks ≡ [])
means_value None v ks e = cc
means_value (Some w) v ks e = let k = some_one w v [] ks e in (ap Some k.0, sym k.1)

module _ {B V : Type 0} (of : B → Option V) (back : V → B) (s : Shape B) (there : (v : V) → of (back v) ≡ Some v) (again : (b : B) (v : V) → of b ≡ Some v → b ≡ back v) where
  pub partly_is : IsMeaning (partly of back s) s
  partly_is = record {
    written = λ v d r. (ap unmarked (there v), d, r);
    stays = λ v d. d;
    clean = λ b v e d r. again b v (means_value (of b) v [] e).0;
    kept = λ b v ks e d. subst s.valid (again b v (means_value (of b) v ks e).0) d;
    read = λ b v ks e r. subst s.readable (again b v (means_value (of b) v ks e).0) r;
  }

  pub partly_seen : Markable s → IsSeen (partly of back s) s
  partly_seen m = seen_one (partly of back s) s m partly_is (λ b v ks e. omega (arith, ap length (means_value (of b) v ks e).1))
