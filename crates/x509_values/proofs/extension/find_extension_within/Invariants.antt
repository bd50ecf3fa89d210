use Rattle.std.proofs.Common.{◌≡◌, ℕ, List, length}
use Rattle.x509_der.specs.Items.{ItemsAt}
use Rattle.x509_der.specs.Tally.{Tally}
use Rattle.picky_asn1_x509.specs.Extensions.{ExtensionFields, extension}
use Rattle.x509_values.proofs.TellingExtensions.{Sought}
use Rattle.x509_values.proofs.extension.find_extension_within.Given as goal

abbrev pub invariant-items : goal.invariant-items
invariant-items g l =
    (v : List (ExtensionFields g.row.A.Denot)) (n : ℕ) (slice string : List ℕ) (whole : Tally) (h : ItemsAt extension string whole v n slice) → l.initial.items.rest ≡ slice → l.initial.items.at ≡ n →
    Sought l.identifier string whole v n slice h l.items

abbrev pub decreases-items : goal.decreases-items
decreases-items g l = length l.items.rest
