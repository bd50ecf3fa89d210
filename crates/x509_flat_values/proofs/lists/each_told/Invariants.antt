use Rattle.std.proofs.Common.{◌≡◌, ℕ, ◌≤◌, List, [], length}
use Rattle.x509_der.specs.Items.{ItemsAt}
use Rattle.x509_der.specs.Tally.{Tally}
use Rattle.x509_values.proofs.Telling.{Gone}
use Rattle.x509_flat_values.proofs.lists.each_told.Given as goal

abbrev pub invariant-items : goal.invariant-items
invariant-items g l =
    (l.told ≤ l.items.at)
    × ((v : List g.row.T.Denot) (n : ℕ) (slice string : List ℕ) (whole : Tally) (h : ItemsAt g.T.Field.shape string whole v n slice) → l.initial.items.rest ≡ slice → l.initial.items.at ≡ n →
    Gone g.T.Field.shape string whole (g.P.Placing.tells string whole) v n slice h [] l.initial.out l.items l.out l.told)

abbrev pub decreases-items : goal.decreases-items
decreases-items g l = length l.items.rest
