use Rattle.std.proofs.Common.{◌≡◌, List, drop, length}
use Rattle.x509_der.specs.Items.{ItemsAt}
use Rattle.x509_der.specs.Tally.{Tally}
use Rattle.picky_asn1_x509.specs.Extensions.{ExtensionFields, extension}
use Rattle.x509_flat.proofs.ExtensionPlaces.{Told}
use Rattle.x509_flat.proofs.extensions.write_places.Given as goal

-- the places of what is behind the walk are written, and the rest of the list stands in front of it
abbrev pub invariant-loop-index : goal.invariant-loop-index
invariant-loop-index g l = (list : List (ExtensionFields g.row.A.Denot)) (whole : Tally) → length list ≡ l.size → ItemsAt extension l.bytes whole list l.initial.items.at l.initial.items.rest → Told list (drop l.index list) l.initial.items.at l.items l.initial.out l.out l.index l.bytes whole
