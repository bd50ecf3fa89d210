-- What a spelling of an authority key identifier says: its fields, and its marks.
use Rattle.std.proofs.Common.{◌≡◌, ℕ, List, ◌++◌, length}
use Rattle.x509_der.specs.Element.{element, header}
use Rattle.x509_der.specs.Items.{ItemsAt}
use Rattle.x509_der.specs.Tally.{Tally, over}
use Rattle.picky_asn1_x509_parts.specs.AuthorityKeyIdentifier.{KeyAuthority, Part, part, order_kinds, authority_of, authority_base}

-- the fields stand one behind another in the SEQUENCE, also those that don't count
pub record AuthorityAt {A : Type 0} (v : KeyAuthority A) (string : List ℕ) (y : Tally) : Type 0 where
  pub fields : List (Part A)
  pub means : authority_of fields ≡ v
  pub content : List ℕ
  pub bytes : string ≡ element 48 content
  pub fields_at : ItemsAt part string y fields (header content) content

-- one mark over the whole where the fields aren't strictly ascending, and behind it those of all fields, also of those
-- that don't count
pub record AuthorityMarks {A : Type 0} (v : KeyAuthority A) (string : List ℕ) (y : Tally) : Type 0 where
  pub fields : List (Part A)
  pub tally : Tally
  pub spelled : authority_base.spelled fields string tally
  pub means : authority_of fields ≡ v
  pub marks : y.marks ≡ over (length string) (order_kinds fields) ++ tally.marks
