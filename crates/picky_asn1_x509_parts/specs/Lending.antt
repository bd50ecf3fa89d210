-- What a value ends as, where a reference to a part of it is handed out to be changed.
use Rattle.std.specs.Prelude.{ℕ, List, Option, slice_set}
use Rattle.std.specs.Borrow.{LendsIf, Fml, RattleType, MutBor}
use Rattle.std.specs.declared.alloc.Allocator.{Ghosts}
use Rattle.x509_der.specs.contracts.oid.ObjectIdentifierAsn1.{the_row as purpose_row}
use Rattle.picky_asn1_x509_parts.specs.contracts.extended_key_usage.ExtendedKeyUsage.{the_row as usage_row}

module _ (A : RattleType) (alloc : Ghosts A.Denot) (usage : MutBor (List (List ℕ))) (index : ℕ) where
  -- the list ends with the purpose at the place as it was left, and else as it was; unchanged where there is none
  abbrev pub lends_purpose : Option (MutBor (List ℕ)) → Fml
  lends_purpose r = LendsIf (usage_row A alloc) (purpose_row A alloc) usage r (slice_set usage.now index) usage.now
