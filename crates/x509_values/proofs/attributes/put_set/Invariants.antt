use Rattle.std.proofs.Common.{◌≡◌, ℕ, ◌+◌, ◌≤◌, List, length}
use Rattle.x509_der.specs.Items.{ItemsAt}
use Rattle.x509_der.specs.Tally.{Tally}
use Rattle.x509_names.specs.Attributes.{attribute}
use Rattle.x509_names.specs.Names.{Set}
use Rattle.x509_values.specs.Names.{AttributeTold}
use Rattle.x509_values.specs.Told.{filled}
use Rattle.x509_values.specs.declared.attributes.AttributePlace.{AttributePlace}
use Rattle.x509_values.proofs.Telling.{Gone}
use Rattle.x509_values.proofs.attributes.put_set.Given as goal

abbrev pub invariant-attributes : goal.invariant-attributes
invariant-attributes g l =
    (l.told + length l.attributes.rest ≤ l.initial.told + length l.initial.attributes.rest)
    × ((set : Set g.row.A.Denot) (n : ℕ) (slice string : List ℕ) (whole : Tally) (h : ItemsAt attribute string whole set n slice) → l.initial.attributes.rest ≡ slice → l.initial.attributes.at ≡ n →
    (done base : List AttributePlace) → l.initial.told ≡ length done → l.initial.out ≡ filled done base →
    Gone attribute string whole (AttributeTold l.number string whole) set n slice h done base l.attributes l.out l.told)

abbrev pub decreases-attributes : goal.decreases-attributes
decreases-attributes g l = length l.attributes.rest
