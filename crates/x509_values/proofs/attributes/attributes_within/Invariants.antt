use Rattle.std.proofs.Common.{◌≡◌, ℕ, ◌≤◌, List, length}
use Rattle.x509_der.specs.Items.{ItemsAt}
use Rattle.x509_der.specs.Tally.{Tally}
use Rattle.x509_names.specs.Names.{Sets, relative_name}
use Rattle.x509_values.proofs.TellingNames.{SetsGone}
use Rattle.x509_values.proofs.attributes.attributes_within.Given as goal

abbrev pub invariant-sets : goal.invariant-sets
invariant-sets g l =
    (l.number ≤ l.sets.at)
    × (l.told ≤ l.sets.at)
    × ((v : Sets g.row.A.Denot) (n : ℕ) (slice string : List ℕ) (whole : Tally) (h : ItemsAt relative_name string whole v n slice) → l.initial.sets.rest ≡ slice → l.initial.sets.at ≡ n →
    SetsGone string whole v n slice h l.initial.out l.sets l.out l.told l.number)

abbrev pub decreases-sets : goal.decreases-sets
decreases-sets g l = length l.sets.rest
