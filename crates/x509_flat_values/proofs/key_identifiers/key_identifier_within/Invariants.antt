use Rattle.std.proofs.Common.{◌≡◌, ℕ, List, length}
use Rattle.x509_der.specs.Items.{Items}
use Rattle.x509_der.specs.Tally.{Tally}
use Rattle.picky_asn1_x509.specs.AuthorityKeyIdentifier.{Part, part}
use Rattle.x509_flat_values.specs.Covered.{Within}
use Rattle.x509_flat_values.proofs.LastFields.{Left}
use Rattle.x509_flat_values.proofs.key_identifiers.key_identifier_within.Given as goal

abbrev pub invariant-fields : goal.invariant-fields
invariant-fields g l =
    (parts : List (Part g.row.A.Denot)) (y : Tally) (string : List ℕ) → Within string l.initial.fields → Items part parts l.initial.fields.rest y → Left string parts l.fields l.last

abbrev pub decreases-fields : goal.decreases-fields
decreases-fields g l = length l.fields.rest
