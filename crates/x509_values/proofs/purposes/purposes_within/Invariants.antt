use Rattle.std.proofs.Common.{◌≡◌, ℕ, ◌≤◌, List, [], length}
use Rattle.x509_der.specs.Items.{ItemsAt}
use Rattle.x509_der.specs.Tally.{Tally}
use Rattle.picky_asn1_x509.specs.ExtendedKeyUsage.{key_purpose}
use Rattle.x509_values.specs.Purposes.{PurposeTold}
use Rattle.x509_values.proofs.Telling.{Gone}
use Rattle.x509_values.proofs.purposes.purposes_within.Given as goal

abbrev pub invariant-purposes : goal.invariant-purposes
invariant-purposes g l =
    (l.told ≤ l.purposes.at)
    × ((v : List (List ℕ)) (n : ℕ) (slice string : List ℕ) (whole : Tally) (h : ItemsAt key_purpose string whole v n slice) → l.initial.purposes.rest ≡ slice → l.initial.purposes.at ≡ n →
    Gone key_purpose string whole (PurposeTold string whole) v n slice h [] l.initial.out l.purposes l.out l.told)

abbrev pub decreases-purposes : goal.decreases-purposes
decreases-purposes g l = length l.purposes.rest
