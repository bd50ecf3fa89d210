use Rattle.std.proofs.Common.{◌≡◌, ℕ, ◌≤◌, List, [], length}
use Rattle.x509_der.specs.Items.{ItemsAt}
use Rattle.x509_der.specs.Tally.{Tally}
use Rattle.x509_names.specs.GeneralNames.{general_name}
use Rattle.x509_names.specs.declared.general_name.GeneralName.{GeneralName}
use Rattle.x509_values.specs.GeneralNames.{GeneralNameTold}
use Rattle.x509_values.proofs.Telling.{Gone}
use Rattle.x509_values.proofs.general_names.general_names_within.Given as goal

abbrev pub invariant-names : goal.invariant-names
invariant-names g l =
    (l.told ≤ l.names.at)
    × ((v : List (GeneralName g.row.A.Denot)) (n : ℕ) (slice string : List ℕ) (whole : Tally) (h : ItemsAt general_name string whole v n slice) → l.initial.names.rest ≡ slice → l.initial.names.at ≡ n →
    Gone general_name string whole (GeneralNameTold string whole) v n slice h [] l.initial.out l.names l.out l.told)

abbrev pub decreases-names : goal.decreases-names
decreases-names g l = length l.names.rest
